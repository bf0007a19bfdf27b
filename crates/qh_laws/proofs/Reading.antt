-- Small point files, computed: their words, numbers, points and first faults.
use Rattle.qh_model.proofs.Common.{◌≡◌, ℕ, refl, List, [], ◌∷◌, ◌++◌, inl, false, true, leb-true, pos, negsuc, Some, None, codes, first_fault, first_fault_in}
use Rattle.qh_model.proofs.Common.{number_of, Reads, Vector, Word, data_words, is_blank, is_data}
use Rattle.qh_model.specs.declared.form.Form.TheVariants.{Qhull}
use Rattle.qh_model.specs.declared.read_fault.ReadFault.TheVariants.{NoHeader, BadNumber, NotThree, Count, Range, Long, Short}
use Rattle.qh_laws.proofs.Tables.{Shows}

-- ---- a point file with comments
-- a word of one byte
abbrev word : ℕ → ℕ → Word
word c n = record { text = c ∷ []; line = n }

-- the lines `3 rbox c z`, `4`, `0 0 0 origin`, `1 0 0 # 7 8`, `0 1 0`, `0 0 1`; each but the last ends with the bytes 13 and 10
abbrev file : List ℕ
file =
    51 ∷ 32 ∷ 114 ∷ 98 ∷ 111 ∷ 120 ∷ 32 ∷ 99 ∷ 32 ∷ 122 ∷ 13 ∷ 10 ∷
    52 ∷ 13 ∷ 10 ∷
    48 ∷ 32 ∷ 48 ∷ 32 ∷ 48 ∷ 32 ∷ 111 ∷ 114 ∷ 105 ∷ 103 ∷ 105 ∷ 110 ∷ 13 ∷ 10 ∷
    49 ∷ 32 ∷ 48 ∷ 32 ∷ 48 ∷ 32 ∷ 35 ∷ 32 ∷ 55 ∷ 32 ∷ 56 ∷ 13 ∷ 10 ∷
    48 ∷ 32 ∷ 49 ∷ 32 ∷ 48 ∷ 13 ∷ 10 ∷
    48 ∷ 32 ∷ 48 ∷ 32 ∷ 49 ∷ []

-- the data words of the file, each with its line
pub words_of_file : data_words file
    ≡ word 51 1 ∷ word 52 2 ∷ word 48 3 ∷ word 48 3 ∷ word 48 3 ∷ word 49 4 ∷ word 48 4 ∷ word 48 4 ∷ word 48 5
    ∷ word 49 5 ∷ word 48 5 ∷ word 48 6 ∷ word 48 6 ∷ word 49 6 ∷ []
words_of_file = refl

-- ---- words
-- the words that are numbers
pub numbers : Shows number_of (
    (codes "007", Some (pos 7)) ∷ (codes "+7", Some (pos 7)) ∷ (codes "7", Some (pos 7)) ∷ (codes "-7", Some (negsuc 6))
    ∷ (codes "-0", Some (pos 0)) ∷ (codes "+0", Some (pos 0)) ∷ (codes "000", Some (pos 0))
    ∷ (codes "7.", None) ∷ (codes ".7", None) ∷ (codes "7e0", None) ∷ (codes "2nd", None)
    ∷ (codes "+", None) ∷ (codes "-", None) ∷ (codes "--7", None) ∷ [])
numbers = refl

-- the words that are data, and those that begin a comment
pub comment_begins : Shows is_data ((codes "x7", false) ∷ (codes "#7", false) ∷ (codes "(7", false) ∷ (codes "-x", true) ∷ [])
comment_begins = refl

-- the tab, 9, and the byte 13 are blanks; the byte 10 ends a line, and is not a blank
pub blanks : Shows is_blank ((9, true) ∷ (13, true) ∷ (10, false) ∷ [])
blanks = refl

-- ---- one point, with a tab between its numbers
abbrev one_point : List ℕ
one_point = codes "3" ++ 10 ∷ codes "1" ++ 10 ∷ codes "5" ++ 9 ∷ codes "5 5" ++ 10 ∷ []

abbrev five : Vector
five = record { x = pos 5; y = pos 5; z = pos 5 }

pub one_point_reads : Reads one_point (five ∷ [])
one_point_reads = record {
  small = leb-true _ _ refl;
  first = pos 3;
  second = pos 1;
  numbers = refl;
  header = inl (refl, refl);
  some = leb-true _ _ refl;
  few = leb-true _ _ refl;
  limit = (leb-true _ _ refl, (leb-true _ _ refl, (leb-true _ _ refl, tt)));
}

pub one_point_has_no_fault : first_fault one_point ≡ None
one_point_has_no_fault = refl

-- ---- first faults
-- a header of one point, followed by the text
abbrev after_header : List ℕ → List ℕ
after_header text = codes "3" ++ 10 ∷ codes "1" ++ 10 ∷ text

-- headers, and their faults
pub headers : Shows (first_fault_in Qhull) (
    ([], Some NoHeader) ∷ (codes "3", Some NoHeader) ∷ (codes "2" ++ 10 ∷ codes "4", Some NotThree)
    ∷ (codes "3" ++ 10 ∷ codes "0", Some Count) ∷ [])
headers = refl

-- the words after a header of one point; a comment is not a word too many
pub points : Shows (λ text. first_fault_in Qhull (after_header text)) (
    (codes "0 0.5 0", Some (BadNumber 3)) ∷ (codes "0 0 99999999999 x", Some (Range 3)) ∷ (codes "0 0", Some Short)
    ∷ (codes "0 0 0 7", Some (Long 3)) ∷ (codes "0 0 0 origin 7", None) ∷ [])
points = refl
