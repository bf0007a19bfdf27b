-- The position of the list of faces among the words of a file.
use Rattle.qh_model.specs.declared.form.Form.TheVariants as forms
use Rattle.std.proofs.Common.{ℕ, ◌≡◌, ◌∙◌, ◌++◌, ◌+◌, ◌*◌, [], ◌∷◌, List, suc, refl, ap, sym, arith, map, drop, length}
use Rattle.std.proofs.{Math.Seq.drop-append_seam, lemmas.List.map-append, lemmas.List.length-map, lemmas.List.drop-drop}
use Rattle.std.specs.Prelude.{ℤ, pos, Option, Some, None, MatchOption}
use Rattle.qh_model.{proofs.ReadingLaws.thrice, specs.declared.read_fault.ReadFault.ReadFault}
use Rattle.qh_model.specs.headline.{Forms.ReadsIn, Numbers.number_of, OffFile.off_words, PointFile.coordinates, Vector.Vector, Words.Word}
use Rattle.qh_read.specs.contract.{FaceFaults.number_fault, FaceFaults.value_fault, FaceFiles.IsOffList, Numerals.numeral_of, Numerals.numerals_in}
use Rattle.qh_read.specs.{declared.numerals.Numeral.Numeral, steps.Lists.behind}

-- one more word is skipped
pub dropped-more : (ws : List Numeral) (k : ℕ) (old new : List Numeral) (r : Option Numeral) → old ≡ drop k ws
    → MatchOption r ((old ≡ []) × (new ≡ [])) (λ w. old ≡ w ∷ new) → new ≡ drop (k + 1) ws
dropped-more ws k old new None e (o, n) = n ∙ sym (ap (drop 1) o) ∙ ap (drop 1) e ∙ drop-drop 1 k ws
dropped-more ws k old new (Some w) e o = sym (ap (drop 1) o) ∙ ap (drop 1) e ∙ drop-drop 1 k ws

-- if the first word is not a number, that is the fault whatever is skipped after it
pub behind-fault : (after : ℕ → ℕ → List Numeral → Option ReadFault) (skipped : ℕ) (ws : List Numeral)
    → number_fault after (behind skipped ws) ≡ number_fault (λ n line rest. after n line (drop skipped rest)) ws
behind-fault after skipped [] = refl
behind-fault after skipped (w ∷ ws) = at w.number
  where
    at : (o : Option ℕ) → value_fault after o w.line (drop skipped ws) ≡ value_fault (λ n line rest. after n line (drop skipped rest)) o w.line ws
    at None = refl
    at (Some n) = refl

-- the list of an OFF file comes after the keyword and the number of vertices
at-words : (bytes : List ℕ) (points : List Vector) (k : ℕ) → ReadsIn forms.Off bytes points → k ≡ 3 * length points + 1
    → (keyword : Word) (ns rest : List Word) → off_words bytes ≡ keyword ∷ ns ++ rest → length ns ≡ 3 * length points + 3
    → IsOffList bytes points (behind k (drop 2 (numerals_in bytes)))
at-words bytes points k r e keyword [] rest w l = absurd (omega (arith, l))
at-words bytes points k r e keyword (a ∷ []) rest w l = absurd (omega (arith, l))
at-words bytes points k r e keyword (a ∷ b ∷ []) rest w l = absurd (omega (arith, l))
at-words bytes points k r e keyword (a ∷ b ∷ d ∷ cs) rest w l =
    let own : List Numeral = map numeral_of cs in
    let left : List Numeral = map numeral_of rest in
    let all : numerals_in bytes ≡ numeral_of keyword ∷ numeral_of a ∷ numeral_of b ∷ numeral_of d ∷ own ++ left =
    ap (map numeral_of) w ∙ ap (λ (t : List Numeral). numeral_of keyword ∷ numeral_of a ∷ numeral_of b ∷ numeral_of d ∷ t) (map-append numeral_of cs rest) in
    let three : length own ≡ 3 * length points = length-map cs numeral_of ∙ omega (arith, l) in
    let long : k ≡ suc (length own) = omega (arith, e, three) in
    let past : drop k (numeral_of d ∷ own ++ left) ≡ left =
    ap (λ (n : ℕ). drop n (numeral_of d ∷ own ++ left)) long ∙ drop-append_seam (numeral_of d ∷ own) left in record {
      before = r;
      keyword = numeral_of keyword;
      vertex_count = numeral_of a;
      face_count = numeral_of b;
      edge_count = numeral_of d;
      coordinates = own;
      rest = left;
      words = all;
      three = three;
      list = ap (λ (t : List Numeral). behind k (drop 2 t)) all ∙ ap (λ (t : List Numeral). numeral_of b ∷ t) past;
    }

counted : (ns : List Word) (points : List Vector) (faces edges : ℤ)
    → map (λ w. number_of w.text) ns ≡ map Some (pos (length points) ∷ faces ∷ edges ∷ coordinates points) → length ns ≡ 3 * length points + 3
counted ns points faces edges e =
    let same : length ns ≡ length (pos (length points) ∷ faces ∷ edges ∷ coordinates points) =
    sym (length-map ns (λ (w : Word). number_of w.text)) ∙ ap length e ∙ length-map (pos (length points) ∷ faces ∷ edges ∷ coordinates points) Some in
    omega (arith, same, thrice points)

pub off-list : (bytes : List ℕ) (points : List Vector) (k : ℕ) → ReadsIn forms.Off bytes points → k ≡ 3 * length points + 1
    → IsOffList bytes points (behind k (drop 2 (numerals_in bytes)))
off-list bytes points k r e = at-words bytes points k r e r.keyword r.numbered r.rest r.words (counted r.numbered points r.faces r.edges r.numbers)
