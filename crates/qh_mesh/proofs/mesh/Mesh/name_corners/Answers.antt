-- A mesh remains one if its corners are renamed.
use Rattle.qh_mesh.proofs.mesh.Mesh.name_corners.Goals as goal
use Rattle.std.proofs.{Common.◌≡◌, Common.◌∙◌, Common.ap, Common.sym, Common.length, Common.map, lemmas.List.with_items_is, lemmas.List.length-map}
use Rattle.qh_model.specs.contract.StoredSurface.{named_facet}
use Rattle.qh_mesh.specs.contract.Names.{name_in}
use Rattle.qh_mesh.proofs.NamedCorners.{named_surface}

pub invariant_of-self : goal.invariant_of-self
invariant_of-self c =
    let fs = c.self.inside.facets in let name = name_in c.args.ids.now in
    let is : c.name_all.new.facets ≡ map (named_facet name) fs.items = c.name_all.ensures
    ∙ ap (map (named_facet name)) c.deref_mut.ensures.value in
    rw (with_items_is fs c.name_all.new.facets (ap length is ∙ length-map fs.items (named_facet name) ∙ sym fs.ok.0), is)
    (named_surface name fs.items c.self.inside.free.items c.self.invariant)
