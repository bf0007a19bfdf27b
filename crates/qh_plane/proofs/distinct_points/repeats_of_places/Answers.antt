use Rattle.std.proofs.Common.{◌≡◌, ◌∙◌, ℕ, ◌+◌, ◌/◌, ◌++◌, ◌∷◌, [], arith, ap, sym, Vec, Global}
use Rattle.qh_plane.proofs.RepeatedPlaces.{none_related, one_related, none_more, all_related}
use Rattle.qh_polygon.specs.declared.place_keys.TheConstants.{ROOM}
use Rattle.qh_plane.proofs.distinct_points.repeats_of_places.Goals.{then-place_in+in_ok-push, else-place_in}
use Rattle.qh_plane.proofs.distinct_points.repeats_of_places.Goals as goal

abbrev SamePlace : ℕ → ℕ → Type 0
SamePlace x y = x / ROOM ≡ y / ROOM

pub loop-j-init : goal.loop-j-init
loop-j-init c = (omega arith, rw c.new-repeats.ensures.items (none_related SamePlace ROOM c.args.keys.now))

pub loop-j-preserved : goal.loop-j-preserved
loop-j-preserved c =
    let keys = c.args.keys.now in let j = c.loop-j.j in let ids = c.loop-j.repeats.items in
    let some = c.loop-j.invariant.0 in let told = c.loop-j.invariant.1 in (
      omega arith,
      elim c.if-place_in.branch [
        | then-place_in+in_ok-push w ↦
            rw (ap (λ (v : Vec ℕ Global). v.items) w.repeats-is ∙ w.in_ok-push.ensures.items ∙ ap (λ i. ids ++ i ∷ []) w.place_key_id.ensures)
            (one_related SamePlace ROOM keys j ids some told c.loop-j-test.true (sym c.place_in.ensures ∙ w.if-place_in.true ∙ c.place_in-in-loop-j.ensures))
        | else-place_in w ↦
            rw (ap (λ (v : Vec ℕ Global). v.items) w.repeats-is)
            (none_more SamePlace ROOM keys j ids some told (λ e. w.if-place_in.false (c.place_in.ensures ∙ e ∙ sym c.place_in-in-loop-j.ensures)))
      ],
    )

pub returns : goal.returns
returns c = all_related SamePlace ROOM c.args.keys.now c.loop-j.j c.loop-j.repeats.items c.loop-j-test.false c.loop-j.invariant.1
