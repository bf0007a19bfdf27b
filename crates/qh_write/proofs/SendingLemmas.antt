-- The bytes received by a sink after some of the bytes were sent.
use Rattle.qh_model.proofs.Common.{◌≡◌, ◌∙◌, ℕ, suc, ◌+◌, ◌-◌, ◌<◌, ◌≤◌, List, ◌∷◌, ◌++◌, length, take, drop, get_or, Vec, Global, ap, arith, sym, append_assoc}
use Rattle.qh_model.proofs.Common.{length-append, subst, take_all, drop-cons, take-add, flat_map-append, take-append-drop, length-drop, Appends, Keeps, Option}
use Rattle.{qh_model.proofs.Common.Some, qh_model.proofs.Common.None, qh_write.specs.contract.Pieces.bytes_of, qh_write.specs.headline.Sinks.AppendsBeginning}
use Rattle.std.proofs.{KnownBytes.Appends-trans, Math.Seq.take-append-add, lemmas.List.take-append-le, lemmas.List.take_rest}

-- a prefix of the bytes, and the bytes added to it, make a longer prefix
pub Appends-more : (old mid new : Option (List ℕ)) (bs : List ℕ) (sent n : ℕ) → sent ≤ length bs
    → Appends old mid (take sent bs) → Appends mid new (take n (take (length bs - sent) (drop sent bs))) → Appends old new (take (sent + n) bs)
Appends-more None mid new bs sent n fits h k = tt
Appends-more (Some xs) None new bs sent n fits h k = absurd h
Appends-more (Some xs) (Some ys) None bs sent n fits h k = absurd k
Appends-more (Some xs) (Some ys) (Some zs) bs sent n fits h k =
    k ∙ ap (λ (t : List ℕ). ys ++ take n t) (take_rest bs sent) ∙ ap (λ (t : List ℕ). t ++ take n (drop sent bs)) h
    ∙ append_assoc xs (take sent bs) (take n (drop sent bs)) ∙ ap (λ (t : List ℕ). xs ++ t) (sym (take-add sent n bs))

-- a number of bytes of the rest is at most the number of remaining bytes
pub fits_rest : (bs : List ℕ) (sent n : ℕ) → n ≤ length (take (length bs - sent) (drop sent bs)) → n ≤ length bs - sent
fits_rest bs sent n h = subst (λ (m : ℕ). n ≤ m) (ap length (take_rest bs sent) ∙ length-drop sent bs) h

-- ---- pieces
-- some bytes were sent, and then a prefix of others
pub beginning_after : (a b c : Option (List ℕ)) (xs ys rest whole : List ℕ) → Appends a b xs → AppendsBeginning b c ys
    → whole ≡ xs ++ (ys ++ rest) → AppendsBeginning a c whole
beginning_after a b c xs ys rest whole p h e = record {
  count = length xs + h.count;
  within = subst (λ (bs : List ℕ). length xs + h.count ≤ length bs) (sym e)
      (omega (arith, h.within, length-append xs (ys ++ rest), length-append ys rest));
  appends = subst (λ (bs : List ℕ). Appends a c (take (length xs + h.count) bs)) (sym e)
      (subst (Appends a c) (sym begun) (Appends-trans a b c xs (take h.count ys) p h.appends));
}
  where
    begun : take (length xs + h.count) (xs ++ (ys ++ rest)) ≡ xs ++ take h.count ys
    begun = take-append-add xs (ys ++ rest) h.count ∙ ap (λ (bs : List ℕ). xs ++ bs) (take-append-le h.count ys rest h.within)

-- all of them were sent, and then no more
pub beginning_kept : (a b c : Option (List ℕ)) (xs : List ℕ) → Appends a b xs → Keeps b c → AppendsBeginning a c xs
beginning_kept a b c xs p k = record {
  count = length xs;
  within = omega arith;
  appends = subst (Appends a c) (sym (take_all (length xs) xs (omega arith))) (kept a b c p k);
}
  where
    kept : (a b c : Option (List ℕ)) → Appends a b xs → Keeps b c → Appends a c xs
    kept None b c p k = tt
    kept (Some x) None c p k = absurd p
    kept (Some x) (Some y) None p k = absurd k
    kept (Some x) (Some y) (Some z) p k = k ∙ p

-- the pieces before piece i, piece i, and the pieces after it
pub piece_among : (pieces : List (Vec ℕ Global)) (last : List ℕ) (i : ℕ) (d : Vec ℕ Global) → i < length pieces
    → bytes_of pieces ++ last ≡ bytes_of (take i pieces) ++ ((get_or pieces i d).items ++ (bytes_of (drop (suc i) pieces) ++ last))
piece_among pieces last i d l =
    ap (λ (ps : List (Vec ℕ Global)). bytes_of ps ++ last)
    (sym (take-append-drop i pieces) ∙ ap (λ (ps : List (Vec ℕ Global)). take i pieces ++ ps) (drop-cons pieces i d l))
    ∙ ap (λ (bs : List ℕ). bs ++ last) (flat_map-append (λ (piece : Vec ℕ Global). piece.items) (take i pieces) (get_or pieces i d ∷ drop (suc i) pieces))
    ∙ append_assoc (bytes_of (take i pieces)) ((get_or pieces i d).items ++ bytes_of (drop (suc i) pieces)) last
    ∙ ap (λ (bs : List ℕ). bytes_of (take i pieces) ++ bs) (append_assoc (get_or pieces i d).items (bytes_of (drop (suc i) pieces)) last)
