-- The facets so far have their names, the others are unchanged.
use Rattle.qh_model.proofs.Common.{◌≡◌, ◌++◌, map, take, drop, named_facet}
use Rattle.qh_mesh.specs.contract.Names.{name_in}
use Rattle.qh_mesh.proofs.facets.name_all.Given as goal

abbrev pub invariant-loop-facet : goal.invariant-loop-facet
invariant-loop-facet l = take l.facet-index l.facets ++ map (named_facet (name_in l.ids))
    (drop l.facet-index l.facets) ≡ map (named_facet (name_in l.ids)) l.initial.facets
