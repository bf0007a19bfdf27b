-- The part was tested against the other parts so far.
use Rattle.{qh_surface.specs.contract.Walks.mark_at, qh_parts_join.specs.contract.Parts.own_in, qh_parts.specs.steps.Apart.IsApart, std.proofs.Common.◌≡◌}
use Rattle.{std.proofs.Common.ℕ, std.proofs.Common.◌<◌, std.proofs.Common.◌⊎◌, std.proofs.Common.get_or, qh_parts_join.specs.declared.parts.Part.Part}
use Rattle.qh_parts.proofs.seam.staying.stays.Given as goal

abbrev pub invariant-loop-other : goal.invariant-loop-other
invariant-loop-other l = (j : ℕ) → j < l.other → (d e : Part)
    → (j ≡ l.fn.number) ⊎ IsApart l.set.pts.now (get_or l.set.parts.now l.fn.number d) (mark_at l.guess.stay.now) (own_in (get_or l.set.parts.now j e))
