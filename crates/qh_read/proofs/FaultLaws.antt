-- The first fault of the words is the one that a reader finds.
use Rattle.qh_model.proofs.Common.{◌≡◌, ◌∙◌, ◌++◌, [], ◌∷◌, ◌*◌, ◌≤◌, ◌&&◌, ℕ, List, Bool, true, false}
use Rattle.qh_model.proofs.Common.{cond, refl, ap, sym, arith, zero, suc, length, nat_lt, nat_tests, option_or, ℤ, pos, negsuc, Option, Some, None, option_map}
use Rattle.qh_model.proofs.Common.{nat_le, is_three, counted_fault, next_number_fault, IsFirstFault, is_coordinate, number_of, off_words, Word, data_words}
use Rattle.qh_model.specs.declared.form.Form.{Form, TheVariants.Qhull, TheVariants.Off}
use Rattle.qh_model.specs.declared.{limits.TheConstants.POINT_LIMIT, limits.TheConstants.BYTE_LIMIT, read_fault.ReadFault.ReadFault}
use Rattle.qh_model.specs.headline.FileFault.{coordinate_fault, coordinates_fault, number_fault, long_fault, headed_fault, words_fault}
use Rattle.qh_model.specs.headline.OffFault.{counts_fault, off_words_fault}
use Rattle.qh_read.specs.contract.Progress.{Progress, wants_first, wants_second, wants, wants_keyword}
use Rattle.qh_read.specs.contract.Progress.{wants_vertex_count, wants_face_count, wants_edge_count, started, fails, counted, headed, after, after_number}
use Rattle.qh_read.specs.declared.builder.Trailing.{Trailing, TheVariants.Refused, TheVariants.Ignored}
use Rattle.qh_read.{specs.contract.Tokens.cap, specs.steps.Building.lack, specs.steps.SmallTokens.capped, proofs.Lexing.words_in}
use Rattle.qh_read.proofs.ProgressLaws.{dropped, stays, judged, is_off, number_in}
use Rattle.qh_model.specs.declared.read_fault.ReadFault.TheVariants as faults

fallen : (f : ReadFault) (ws : List Word) → lack (judged (fails f) ws) ≡ Some f
fallen f ws = ap lack (stays f ws)

same_limit : (z : ℤ) → is_coordinate (capped z) ≡ is_coordinate z
same_limit (pos n) = grind (arith, nat_tests)
same_limit (negsuc n) = grind (arith, nat_tests)

same_three : (z : ℤ) → is_three (capped z) ≡ is_three z
same_three (pos n) = grind (arith, nat_tests)
same_three (negsuc n) = refl

-- a condition that selects the continuation
chosen : (b d : Bool) (p q : Progress) (ws : List Word) (x y : Option ReadFault) → b ≡ d → lack (judged p ws) ≡ x → lack (judged q ws) ≡ y
    → lack (judged (cond b p q) ws) ≡ cond d x y
chosen true true p q ws x y e f g = f
chosen false false p q ws x y e f g = g
chosen b d p q ws x y e f g = cc

-- a condition before or after the choice of the earlier fault
either : (b : Bool) (x : Option ReadFault) (f : ReadFault) → cond b x (Some f) ≡ option_or (cond b None (Some f)) x
either true x f = refl
either false x f = refl

-- the fault of the words after the last coordinate
abbrev trailing_fault : Trailing → List Word → Option ReadFault
trailing_fault Refused ws = long_fault ws
trailing_fault Ignored ws = None

coordinates : (trailing : Trailing) (ws : List Word) (k : ℕ) (t : List ℤ) → lack (judged (wants trailing k t) ws)
    ≡ coordinates_fault (trailing_fault trailing) k ws
coordinates Refused [] zero t = refl
coordinates Refused (w ∷ ws) zero t = fallen (faults.Long w.line) ws
coordinates Ignored ws zero t = ap lack (dropped t ws)
coordinates trailing [] (suc k) t = refl
coordinates trailing (w ∷ ws) (suc k) t = let others = coordinates_fault (trailing_fault trailing) k ws in
    elim (number_of w.text) as (λ o. lack (judged (after (wants trailing (suc k) t) (is_off w) (option_map capped o) w.line) ws)
    ≡ option_or (coordinate_fault o w.line) others) [
      | None ↦ fallen (faults.BadNumber w.line) ws
      | Some z ↦ chosen (is_coordinate (capped z)) (is_coordinate z) (wants trailing k (t ++ capped z ∷ [])) (fails (faults.Range w.line)) ws
          others (Some (faults.Range w.line)) (same_limit z) (coordinates trailing ws k (t ++ capped z ∷ [])) (fallen (faults.Range w.line) ws)
          ∙ either (is_coordinate z) others (faults.Range w.line)
    ]

-- the count, and then the coordinates
counts : (trailing : Trailing) (ws : List Word) (z : ℤ) → lack (judged (counted trailing (capped z)) ws) ≡ counted_fault (trailing_fault trailing) z ws
counts trailing ws (negsuc n) = fallen faults.Count ws
counts trailing ws (pos n) = tested (nat_le 1 (cap n) && nat_le (cap n) POINT_LIMIT) refl
  where
    told : Bool → Option ReadFault
    told b = cond b (coordinates_fault (trailing_fault trailing) (3 * n) ws) (Some faults.Count)

    tested : (b : Bool) → (nat_le 1 (cap n) && nat_le (cap n) POINT_LIMIT) ≡ b
        → lack (judged (cond b (wants trailing (3 * cap n) []) (fails faults.Count)) ws) ≡ told (nat_le 1 n && nat_le n POINT_LIMIT)
    tested true e =
        let same : cap n ≡ n = grind (arith, nat_tests) in
        let test : (nat_le 1 n && nat_le n POINT_LIMIT) ≡ true = grind (arith, nat_tests) in
        coordinates trailing ws (3 * cap n) [] ∙ ap (λ (k : ℕ). coordinates_fault (trailing_fault trailing) (3 * k) ws) same ∙ ap told (sym test)
    tested false e =
        let test : (nat_le 1 n && nat_le n POINT_LIMIT) ≡ false = grind (arith, nat_tests) in
        fallen faults.Count ws ∙ ap told (sym test)

-- a number of the header, and then the fault of the rest
asked : (p : Progress) (next : ℤ → Progress) (fault : ℤ → List Word → Option ReadFault) → lack p ≡ Some faults.NoHeader
    → ((keyword : Bool) (o : Option ℤ) (line : ℕ) → after p keyword o line ≡ after_number next o line)
    → ((z : ℤ) (ws : List Word) → lack (judged (next (capped z)) ws) ≡ fault z ws) → (ws : List Word) → lack (judged p ws) ≡ next_number_fault fault ws
asked p next fault none asks rest [] = none
asked p next fault none asks rest (w ∷ ws) =
    ap (λ (q : Progress). lack (judged q ws)) (asks (is_off w) (number_in w) w.line)
    ∙ elim (number_of w.text) as (λ o. lack (judged (after_number next (option_map capped o) w.line) ws) ≡ number_fault fault o w.line ws)
    [ None ↦ fallen (faults.BadNumber w.line) ws | Some z ↦ rest z ws ]

heads : (a b : ℤ) (ws : List Word) → lack (judged (headed (capped a) (capped b)) ws) ≡ headed_fault a b ws
heads a b ws =
    chosen (is_three (capped a)) (is_three a) (counted Refused (capped b)) _ ws (counted_fault long_fault b ws) _ (same_three a) (counts Refused ws b)
    (chosen (is_three (capped b)) (is_three b) (counted Refused (capped a)) (fails faults.NotThree) ws (counted_fault long_fault a ws) (Some faults.NotThree)
    (same_three b) (counts Refused ws a) (fallen faults.NotThree ws))

-- a point file
lacks : (ws : List Word) → lack (judged wants_first ws) ≡ words_fault ws
lacks = asked wants_first wants_second (λ first. next_number_fault (headed_fault first)) refl (λ keyword o line. refl)
    (λ first. asked (wants_second (capped first)) (headed (capped first)) (headed_fault first) refl (λ keyword o line. refl) (heads first))

-- the counts of an OFF file
counts_lack : (ws : List Word) → lack (judged wants_vertex_count ws) ≡ counts_fault ws
counts_lack =
    asked wants_vertex_count wants_face_count (λ vertices. next_number_fault (λ faces. next_number_fault (λ edges. counted_fault (λ rest. None) vertices)))
    refl (λ keyword o line. refl) (λ vertices. asked (wants_face_count (capped vertices)) (λ faces. wants_edge_count (capped vertices))
    (λ faces. next_number_fault (λ edges. counted_fault (λ rest. None) vertices)) refl (λ keyword o line. refl)
    (λ faces. asked (wants_edge_count (capped vertices)) (λ edges. counted Ignored (capped vertices)) (λ edges. counted_fault (λ rest. None) vertices)
    refl (λ keyword o line. refl) (λ edges ws. counts Ignored ws vertices)))

off_lacks : (ws : List Word) → lack (judged wants_keyword ws) ≡ off_words_fault ws
off_lacks [] = refl
off_lacks (w ∷ ws) = elim (is_off w) as (λ b. lack (judged (after wants_keyword b (option_map capped (number_of w.text)) w.line) ws)
    ≡ cond b (counts_fault ws) (Some faults.NotOff)) [ true ↦ counts_lack ws | false ↦ fallen faults.NotOff ws ]

-- bytes within the limit have the fault of their words
within : (bs : List ℕ) (fault : Option ReadFault) → length bs ≤ BYTE_LIMIT → cond (nat_lt BYTE_LIMIT (length bs)) (Some faults.Big) fault ≡ fault
within bs fault small = let e : nat_lt BYTE_LIMIT (length bs) ≡ false = grind (arith, nat_tests) in rw e refl

-- the fault for missing words is the first fault
pub found : (form : Form) (bs : List ℕ) (e : ReadFault) → length bs ≤ BYTE_LIMIT → lack (judged (started form) (words_in form bs)) ≡ Some e
    → IsFirstFault form bs e
found Qhull bs e small h = within bs (words_fault (data_words bs)) small ∙ sym (lacks (data_words bs)) ∙ h
found Off bs e small h = within bs (off_words_fault (off_words bs)) small ∙ sym (off_lacks (off_words bs)) ∙ h
