use Rattle.{std.proofs.lemmas.Bool.false≢true, qh_plane.proofs.SeenPlaces.point_read, qh_plane.specs.steps.SharedSlots.MarkedHashes}
use Rattle.qh_plane.{specs.declared.hashed_keys.TheConstants.ID_ROOM, proofs.KeysBelow.key_added, proofs.KeysBelow.key_left_out}
use Rattle.qh_plane.proofs.shared_slots.keys_in_slots.Goals.{then-is_marked+in_ok-push, else-is_marked}
use Rattle.qh_plane.specs.steps.HashedKeys.{Hashes, place_hash, hash_at, AreKeysBelow}
use Rattle.std.proofs.Common.{◌≡◌, ◌∙◌, arith, ℕ, ◌+◌, ◌*◌, ◌∷◌, ◌++◌, [], true, false, ap, sym, subst, Vec, Global}
use Rattle.qh_plane.proofs.shared_slots.keys_in_slots.Goals as goal

pub loop-number-preserved : goal.loop-number-preserved
loop-number-preserved c =
    let pts = c.args.pts.now in let n = c.loop-number.number in let keys = c.loop-number.keys.items in
    let some : Hashes = MarkedHashes c.args.marks.now in let before = c.loop-number.invariant in
    let hash : c.place_hash-hash.result ≡ hash_at pts n = c.place_hash-hash.ensures.value
    ∙ ap place_hash (point_read pts n c.index-pts-number.result c.loop-number-test.true c.index-pts-number.is) in
    elim c.if-is_marked.branch [
      | then-is_marked+in_ok-push w ↦
          subst (AreKeysBelow pts some (n + 1)) (sym (ap (λ (v : Vec ℕ Global). v.items) w.keys-is ∙ w.in_ok-push.ensures.items
          ∙ ap (λ k. keys ++ k ∷ []) (w.key_of.ensures ∙ ap (λ h. h * ID_ROOM + n) hash)))
          (key_added pts some 0 n keys before (omega arith) (subst some hash (c.is_marked.ensures.0 w.if-is_marked.true)))
      | else-is_marked w ↦
          subst (AreKeysBelow pts some (n + 1)) (sym (ap (λ (v : Vec ℕ Global). v.items) w.keys-is))
          (key_left_out pts some 0 n keys before (λ p. false≢true (sym w.if-is_marked.false ∙ c.is_marked.ensures.1 (subst some (sym hash) p))))
    ]
