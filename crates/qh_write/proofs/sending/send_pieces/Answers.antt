-- If a sink fails, a prefix of the pieces was sent.
use Rattle.std.proofs.Common.{◌≡◌, ◌∙◌, ◌<◌, ◌≤◌, ◌++◌, [], suc, List, length, take, drop, get_or, Vec, Global, Result, Ok, Err, ap, ap₂, sym, subst}
use Rattle.std.proofs.{Common.append-nil, Common.take_all, KnownBytes.Appends-trans, lemmas.Result.err_from_is_err_and}
use Rattle.{std.specs.Prelude.ℕ, std.specs.Prelude.OnErr, qh_write.specs.contract.Pieces.bytes_of}
use Rattle.qh_write.proofs.SendingLemmas.{beginning_after, beginning_kept, piece_among}
use Rattle.qh_write.proofs.sending.send_pieces.Goals as goal

-- the sink fails in one of the pieces
pub returns-in_err-send_all-clause-beginning : goal.returns-in_err-send_all-clause-beginning
returns-in_err-send_all-clause-beginning g c =
    let done = c.args.text.now.done.items in let last = c.args.text.now.last.items in
    let i = c.loop-piece.piece-index in let piece = c.piece-item.result in let same = c.deref-piece-items.ensures.value in
    let within : i < length done = subst (λ (ps : List (Vec ℕ Global)). i < length ps) same c.loop-piece-test.true in
    let here : c.deref.result.now ≡ (get_or done i piece).items =
    c.deref.ensures.value ∙ ap (λ (p : Vec ℕ Global). p.items) (c.piece-item.is ∙ ap (λ (ps : List (Vec ℕ Global)). get_or ps i piece) same) in
    rw (err_from_is_err_and c.from_residual.result c.from_residual.ensures.1).1
    (beginning_after _ _ _ _ _ (bytes_of (drop (suc i) done) ++ last) _ c.loop-piece.invariant.0 c.in_err-send_all.ensures.beginning
    (piece_among done last i piece within ∙ ap (λ (bs : List ℕ). bytes_of (take i done) ++ (bs ++ (bytes_of (drop (suc i) done) ++ last))) (sym here)))

-- the sink fails in the last piece
pub returns-in_err-send_all-2-clause-beginning : goal.returns-in_err-send_all-2-clause-beginning
returns-in_err-send_all-2-clause-beginning g c =
    let done = c.args.text.now.done.items in let i = c.loop-piece.piece-index in
    let over : length done ≤ i = subst (λ (ps : List (Vec ℕ Global)). length ps ≤ i) c.deref-piece-items.ensures.value c.loop-piece-test.false in
    rw (err_from_is_err_and c.from_residual-in_err-send_all-2.result c.from_residual-in_err-send_all-2.ensures.1).1
    (beginning_after _ _ _ _ _ [] _ c.loop-piece.invariant.0 c.in_err-send_all-2.ensures.beginning
    (ap₂ (λ (a b : List ℕ). a ++ b) (ap bytes_of (sym (take_all i done over))) (sym c.deref-2.ensures.value ∙ sym (append-nil c.deref-2.result.now))))

-- the sink fails after all pieces
pub returns-clause-beginning : goal.returns-clause-beginning
returns-clause-beginning g c =
    let done = c.args.text.now.done.items in let i = c.loop-piece.piece-index in
    let over : length done ≤ i = subst (λ (ps : List (Vec ℕ Global)). length ps ≤ i) c.deref-piece-items.ensures.value c.loop-piece-test.false in
    always c.map_err.result (beginning_kept _ _ _ _ (rw (ap₂ (λ (a b : List ℕ). a ++ b) (ap bytes_of (take_all i done over)) c.deref-2.ensures.value) at
    (Appends-trans _ _ _ _ _ c.loop-piece.invariant.0 c.in_ok-send_all-2.ensures.sent))
    c.flush.ensures.went)
  where
    always : {T E P : Type 0} (r : Result T E) → P → OnErr r P
    always (Ok x) h = tt
    always (Err e) h = h
