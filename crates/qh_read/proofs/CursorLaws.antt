-- The bytes that cursors pass, one part after another.
use Rattle.std.proofs.Common.{◌≡◌, ◌∙◌, ◌++◌, [], ◌∷◌, ◌<◌, ◌≤◌, ◌+◌, ◌-◌, ◌*◌, drop, ℕ, List, ap, arith, suc, refl, length, length-append, append_assoc, sym}
use Rattle.std.{proofs.lemmas.List.drop_more, proofs.lemmas.List.append-nil, specs.Prelude.ℤ, specs.Prelude.get_or}
use Rattle.qh_model.specs.{declared.form.Form.Form, headline.Limits.IsCoordinate, headline.PointFile.coordinates, headline.Vector.Vector}
use Rattle.qh_read.proofs.NumberLaws.{three, coordinates-append}
use Rattle.qh_read.specs.contract.{Holding.Held, Holding.held_by, Holding.next_held, Progress.Progress, Progress.wants}
use Rattle.qh_read.specs.declared.{builder.Trailing.Trailing, cursor.Cursor.Cursor, token.Token.TheVariants.Empty}
use Rattle.qh_read.specs.steps.{Cursors.ahead, Cursors.held_from, Cursors.IsParted, Cursors.ArePoint, Cursors.ArePushed, Numbers.quiet, Numbers.ArePoints}

-- one more byte
pub step : (h k : Held) (bytes : List ℕ) (i j : ℕ) → i < length bytes → j ≡ i + 1 → next_held h (get_or bytes i 0) ≡ k
    → held_by h (drop i bytes) ≡ held_by k (drop j bytes)
step h k bytes i j within e next =
    ap (held_by h) (drop_more bytes i 0 within) ∙ ap (λ (s : Held). held_by s (drop (i + 1) bytes)) next ∙ ap (λ (n : ℕ). held_by k (drop n bytes)) (sym e)

-- separators after the points
pub points-parted : (line : ℕ) (bytes : List ℕ) (points : List Vector) (mid to : Cursor) → ArePoints line bytes points mid.line (ahead mid)
    → IsParted mid to → ArePoints line bytes points to.line (ahead to)
points-parted line bytes points mid to many h form trailing left t base =
    many form trailing left t base ∙ h.held form (wants trailing left (t ++ coordinates points)) base

-- one more point
pub points-more : (line : ℕ) (bytes : List ℕ) (points : List Vector) (mid : Cursor) (p : Vector) (to : Cursor)
    → ArePoints line bytes points mid.line (ahead mid) → ArePoint mid p.x p.y p.z to
    → IsCoordinate p.x → IsCoordinate p.y → IsCoordinate p.z → ArePoints line bytes (points ++ p ∷ []) to.line (ahead to)
points-more line bytes points mid p to many one a b c form trailing left t base =
    let u : List ℤ = t ++ coordinates points in
    let count : 3 * length (points ++ p ∷ []) + left ≡ 3 * length points + suc (suc (suc left)) = omega (arith, length-append points (p ∷ [])) in
    let told = one.held form (wants trailing (suc (suc (suc left))) u) base in
    let all : u ++ p.x ∷ p.y ∷ p.z ∷ [] ≡ t ++ coordinates (points ++ p ∷ []) =
    append_assoc t (coordinates points) (p.x ∷ p.y ∷ p.z ∷ []) ∙ ap (λ (v : List ℤ). t ++ v) (sym (coordinates-append points (p ∷ []))) in
    ap (λ (n : ℕ). held_by (quiet form (wants trailing n t) (base + line) Empty) bytes) count ∙ many form trailing (suc (suc (suc left))) t base ∙ told.3
    ∙ ap (λ (s : Progress). held_by (quiet form s (base + to.line) Empty) (ahead to))
    (three trailing left u p.x p.y p.z told.0 told.1 told.2 a b c ∙ ap (wants trailing left) all)

-- no point yet
pub none-pushed : (points : List Vector) (from : Cursor) → ArePushed points points from from
none-pushed points from = record {
  more = [];
  items = sym (append-nil points);
  told = λ form trailing left t base. ap (λ (n : ℕ). held_from form (wants trailing n t) base from) (omega arith)
      ∙ ap (λ (u : List ℤ). held_from form (wants trailing left u) base from) (sym (append-nil t));
  moved = record { same = refl; on = omega arith; lines = omega arith };
}

-- the coordinates that are expected before and after the points
pub shown-pushed : (form : Form) (trailing : Trailing) (left : ℕ) (old new : List Vector) (from to : Cursor) (base : ℕ)
    → (h : ArePushed old new from to) → 3 * length h.more ≤ left → held_from form (wants trailing left (coordinates old)) base from
    ≡ held_from form (wants trailing (left - 3 * length h.more) (coordinates new)) base to
shown-pushed form trailing left old new from to base h k =
    let then : ℕ = left - 3 * length h.more in
    ap (λ (n : ℕ). held_from form (wants trailing n (coordinates old)) base from) (omega arith) ∙ h.told form trailing then (coordinates old) base
    ∙ ap (λ (t : List ℤ). held_from form (wants trailing then t) base to) (sym (ap coordinates h.items ∙ coordinates-append old h.more))
