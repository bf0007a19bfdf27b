-- Words that are taken one by one.
use Rattle.qh_model.proofs.Common.{ℕ, ◌≡◌, ◌∙◌, ◌++◌, ◌<◌, ◌-◌, ◌+◌, [], ◌∷◌, List, suc, refl, ap, sym, subst, arith, map, append_assoc, append-nil, map-append}
use Rattle.qh_model.{proofs.Common.Option, proofs.Common.Some, proofs.Common.ne_eqb, specs.declared.read_fault.ReadFault.ReadFault}
use Rattle.qh_read.specs.contract.FaceFaults.{corners_fault, face_fault, faces_fault, number_fault}
use Rattle.qh_read.specs.contract.FaceWords.{AreNumbers, IsLineFace, after_line, last_line, on_line}
use Rattle.qh_read.specs.{contract.Numerals.IsElsewhere, declared.faces.reading.Layout.Layout, declared.numerals.Numeral.Numeral, steps.Corners.AreTaken}

last_line-append : (own : List Numeral) (line : ℕ) (w : Numeral) → last_line line (own ++ w ∷ []) ≡ w.line
last_line-append [] line w = refl
last_line-append (v ∷ own) line w = last_line-append own v.line w

-- one more corner
pub taken-more : (line : ℕ) (old : List Numeral) (ids : List ℕ) (last : ℕ) (v at : ℕ) (new : List Numeral)
    → AreTaken line old ids last (record { number = Some v; line = at } ∷ new) → AreTaken line old (ids ++ v ∷ []) at new
taken-more line old ids last v at new t =
    let w : Numeral = record { number = Some v; line = at } in record {
      own = t.own ++ w ∷ [];
      words = t.words ∙ sym (append_assoc t.own (w ∷ []) new);
      numbers = map-append (λ (n : Numeral). n.number) t.own (w ∷ []) ∙ ap (λ (os : List (Option ℕ)). os ++ Some v ∷ []) t.numbers
          ∙ sym (map-append Some ids (v ∷ []));
      ends = sym (last_line-append t.own line w);
    }

-- the next corner is a number
pub corners-next : (after : ℕ → List Numeral → Option ReadFault) (n k line : ℕ) (ws : List Numeral) → k < n
    → corners_fault after (n - k) line ws ≡ number_fault (λ corner next rest. corners_fault after (n - (k + 1)) next rest) ws
corners-next after n k line ws l = let more : n - k ≡ suc (n - (k + 1)) = omega (arith, l) in ap (λ (m : ℕ). corners_fault after m line ws) more

-- a face comes next
pub faces-next : (layout : Layout) (n k : ℕ) (ws : List Numeral) → k < n
    → faces_fault layout (n - k) ws ≡ face_fault layout (λ rest. faces_fault layout (n - (k + 1)) rest) ws
faces-next layout n k ws l = let more : n - k ≡ suc (n - (k + 1)) = omega (arith, l) in ap (λ (m : ℕ). faces_fault layout m ws) more

-- no word remains on the line
pub none-on : (line : ℕ) (ws : List Numeral) → IsElsewhere line ws → on_line line ws ≡ []
none-on line [] h = refl
none-on line (w ∷ ws) h = rw (ne_eqb w.line line h) refl

pub all-after : (line : ℕ) (ws : List Numeral) → IsElsewhere line ws → after_line line ws ≡ ws
all-after line [] h = refl
all-after line (w ∷ ws) h = rw (ne_eqb w.line line h) refl

-- the line ends
pub line-ends : (old : List Numeral) (ids : List ℕ) (line : ℕ) (ws new : List Numeral)
    → ((more : List ℕ) → AreNumbers (on_line line ws) more → IsLineFace old (ids ++ more) (after_line line ws))
    → IsElsewhere line ws → new ≡ ws → IsLineFace old ids new
line-ends old ids line ws new read h e =
    let none : AreNumbers (on_line line ws) [] = ap (map (λ (n : Numeral). n.number)) (none-on line ws h) in
    let all : IsLineFace old ids (after_line line ws) = subst (λ (xs : List ℕ). IsLineFace old xs (after_line line ws)) (append-nil ids) (read [] none) in
    subst (λ (xs : List Numeral). IsLineFace old ids xs) (all-after line ws h ∙ sym e) all
