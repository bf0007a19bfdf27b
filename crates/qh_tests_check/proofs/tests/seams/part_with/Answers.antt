-- The own ids and the shared ones are indices.
use Rattle.std.proofs.{Common.◌<◌, Common.length, lemmas.List.Elements.All-append}
use Rattle.qh_tests_check.proofs.tests.seams.part_with.Goals as goal

pub of-requires : goal.of-requires
of-requires c =
    rw (c.deref.ensures.value, c.in_ok-extend_from_slice.ensures.items)
    (All-append (λ i. i < length c.args.pts.now) _ _ c.in_ok-listed.ensures c.requires.shared)
