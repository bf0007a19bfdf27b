-- One more block is made.
use Rattle.std.proofs.{Common.ℕ, Common.◌<◌, Common.subst, Common.sym, lemmas.Nat.pow_pos}
use Rattle.qh_places.{specs.steps.Levels.AreBlocks, proofs.BlockBoxes.blocks_start, proofs.BlockBoxes.blocks_grow}
use Rattle.qh_places.proofs.levels.Level.over.Goals as goal

pub loop-rest-init : goal.loop-rest-init
loop-rest-init c = rw c.new-blocks.ensures.items (blocks_start _ _)

pub loop-rest-preserved : goal.loop-rest-preserved
loop-rest-preserved c =
    let some = subst (λ (s : ℕ). 0 < s) (sym c.positions-size.ensures) (pow_pos c.args.shift) in
    rw (c.in_ok-push.ensures.items, c.split_at.ensures.back)
    (blocks_grow _ _ _ _ _ _ some c.loop-rest.invariant c.min.ensures (rw c.split_at.ensures.front at c.around.ensures))

pub returns : goal.returns
returns c =
    subst (λ (s : ℕ). AreBlocks c.args.points.now s c.loop-rest.blocks.items) c.positions-size.ensures
    c.loop-rest.invariant.blocks
