use Rattle.std.proofs.Common.{◌≡◌, ◌∙◌, arith, ◌+◌, ◌*◌, ◌∷◌, ◌++◌, [], ap}
use Rattle.qh_plane.{proofs.KeysBelow.no_keys, proofs.KeysBelow.key_added, proofs.SeenPlaces.point_read, specs.declared.hashed_keys.TheConstants.ID_ROOM}
use Rattle.qh_plane.specs.steps.HashedKeys.{place_hash, hashed_key_at, AllHashes}
use Rattle.qh_plane.proofs.hashed_keys.hashed_keys.Goals as goal

pub loop-number-init : goal.loop-number-init
loop-number-init c = rw c.in_ok-keys.ensures.items (no_keys c.args.pts.now AllHashes 0)

pub loop-number-preserved : goal.loop-number-preserved
loop-number-preserved c =
    let pts = c.args.pts.now in let n = c.loop-number.number in let keys = c.loop-number.keys.items in
    let key : c.key_of.result ≡ hashed_key_at pts n =
    c.key_of.ensures ∙ ap (λ h. h * ID_ROOM + n)
    (c.place_hash.ensures.value ∙ ap place_hash (point_read pts n c.index-pts-number.result c.loop-number-test.true c.index-pts-number.is)) in
    rw (c.in_ok-push.ensures.items ∙ ap (λ k. keys ++ k ∷ []) key) (key_added pts AllHashes 0 n keys c.loop-number.invariant (omega arith) tt)
