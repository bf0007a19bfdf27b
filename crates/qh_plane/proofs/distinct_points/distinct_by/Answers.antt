use Rattle.qh_plane.proofs.distinct_points.distinct_by.Goals as goal
use Rattle.std.proofs.Common.{◌≡◌, ◌∙◌, ℕ, List, [], arith, sym, eqb, true, length}
use Rattle.std.proofs.lemmas.{Bool.Decides.nat_tests, List.nil_from_length}
use Rattle.qh_plane.{proofs.DistinctLists.all_distinct, proofs.RepeatedIds.none_repeated, specs.steps.Repeats.AreAllRepeats}

pub returns-then-are_in_order : goal.returns-then-are_in_order
returns-then-are_in_order g c = all_distinct c.args.pts.now c.in_ok-ids.ids.items c.in_ok-ids.ensures (c.are_in_order.ensures c.if-are_in_order.true)

-- a list whose length is tested to be 0 has no members
none_in : (xs : List ℕ) (n : ℕ) → length xs ≡ n → eqb n 0 ≡ true → xs ≡ []
none_in xs n l e = nil_from_length xs (l ∙ grind (arith, e, nat_tests))

pub returns-then-is_empty : goal.returns-then-is_empty
returns-then-is_empty g c =
    let repeats : AreAllRepeats c.args.pts.now c.in-Some-2.repeats.items = rw c.in-Some-2.is at c.in_ok-repeats.ensures in
    none_repeated c.args.pts.now c.in_ok-ids.ids.items c.in-Some-2.repeats.items c.in_ok-ids.ensures repeats
    (none_in c.in-Some-2.repeats.items _ (sym c.in-Some-2.repeats.ok.0) (sym c.is_empty.ensures ∙ c.if-is_empty.true))
