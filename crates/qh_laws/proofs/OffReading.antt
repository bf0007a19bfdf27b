-- Small OFF files, computed: their words and first faults.
use Rattle.qh_model.proofs.Common.{◌≡◌, ℕ, refl, List, [], ◌∷◌, ◌++◌, flat_map, Some, None, codes, first_fault_in, off_words, Word}
use Rattle.qh_model.specs.declared.form.Form.TheVariants.{Off}
use Rattle.qh_model.specs.declared.read_fault.ReadFault.TheVariants.{NoHeader, BadNumber, Count, Short, NotOff}
use Rattle.qh_laws.proofs.Tables.{Shows}

abbrev line : List ℕ → List ℕ
line text = text ++ 10 ∷ []

abbrev word : List ℕ → ℕ → Word
word text n = record { text = text; line = n }

-- a comment ends a word, and extends to the end of its line
pub commented : off_words (line (codes "5#5 5") ++ codes "x y#") ≡ word (codes "5") 1 ∷ word (codes "x") 2 ∷ word (codes "y") 2 ∷ []
commented = refl

-- the end of the file ends a line, too
pub one_point : first_fault_in Off (line (codes "OFF 1 0 0 # one") ++ codes "5 5 5") ≡ None
one_point = refl

-- the first faults of lines; faces are not read
pub faults : Shows (λ lines. first_fault_in Off (flat_map line lines)) (
    (codes "OFF" ∷ codes "1 1 0" ∷ codes "5 5 5" ∷ codes "1 zero" ∷ [], None)
    ∷ (codes "COFF" ∷ codes "1 0 0" ∷ codes "5 5 5" ∷ [], Some NotOff)
    ∷ (codes "OFF BINARY" ∷ [], Some (BadNumber 1))
    ∷ ([], Some NoHeader)
    ∷ (codes "OFF" ∷ codes "1 1" ∷ [], Some NoHeader)
    ∷ (codes "OFF" ∷ codes "0 0 0" ∷ [], Some Count)
    ∷ (codes "OFF" ∷ codes "2 0 0" ∷ codes "1 2 3" ∷ codes "4 5" ∷ [], Some Short)
    ∷ (codes "OFF" ∷ codes "1 0 0" ∷ codes "1 2 3.0" ∷ [], Some (BadNumber 3)) ∷ [])
faults = refl
