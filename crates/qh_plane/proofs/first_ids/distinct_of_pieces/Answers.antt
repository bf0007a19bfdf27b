-- One more piece.
use Rattle.std.proofs.Common.{◌≡◌, ◌≤◌, ◌+◌, ◌*◌, length, arith, sym, subst, IfSome, Vec, ℕ, Global}
use Rattle.std.specs.Option.{option_copied}
use Rattle.qh_plane.{proofs.FirstIds.next_end, proofs.SeenPlaces.all_seen, specs.steps.FirstIds.AreFirstIds, specs.steps.Pieces.end_of}
use Rattle.qh_plane.proofs.first_ids.distinct_of_pieces.Goals as goal

pub look_at_piece-requires-clause-order : goal.look_at_piece-requires-clause-order
look_at_piece-requires-clause-order c =
    (next_end c.args.pts.now c.args.size c.loop-piece.piece-index c.loop-piece.begin c.saturating_add.result c.min-end.result c.requires.few
    c.loop-piece.invariant.begin c.saturating_add.ensures c.min-end.ensures).1

pub look_at_piece-requires-clause-firsts : goal.look_at_piece-requires-clause-firsts
look_at_piece-requires-clause-firsts c =
    let pts = c.args.pts.now in let size = c.args.size in let n = c.loop-piece.piece-index in
    let next = next_end pts size n c.loop-piece.begin c.saturating_add.result c.min-end.result c.requires.few
    c.loop-piece.invariant.begin c.saturating_add.ensures c.min-end.ensures in
    let found : IfSome (option_copied c.in_ok-ids.field-0) (λ (v : Vec ℕ Global). AreFirstIds pts (end_of pts size n) (end_of pts size (n + 1)) v.items) =
    rw c.in_ok-ids.ensures at (rw (sym c.piece-item.is) at (c.requires.pieces n c.piece-item.result c.loop-piece-test.true)) in
    rw (c.loop-piece.invariant.begin, next.0, c.deref.ensures.value) (rw c.in-Some.is at found)

pub loop-piece-preserved : goal.loop-piece-preserved
loop-piece-preserved c =
    record {
      begin = (next_end c.args.pts.now c.args.size c.loop-piece.piece-index c.loop-piece.begin c.saturating_add.result c.min-end.result c.requires.few
          c.loop-piece.invariant.begin c.saturating_add.ensures c.min-end.ensures).0;
      seen = c.in_ok-look_at_piece.ensures c.if-not-branch.false;
    }

pub returns : goal.returns
returns c =
    let pts = c.args.pts.now in let f = c.loop-piece.firsts in let n = c.loop-piece.piece-index in
    let end : n ≡ length c.args.pieces.now = (omega (arith, c.loop-piece.auto.piece-index-end, c.loop-piece-test.false)) in
    let reached : length pts ≤ n * c.args.size = subst (λ m. length pts ≤ m * c.args.size) (sym end) c.requires.all in
    all_seen pts f.close f.slots.items c.loop-piece.begin f.ids.items c.loop-piece.invariant.seen (omega (arith, c.loop-piece.invariant.begin, reached))
