-- Marks of ids and of corners.
use Rattle.qh_model.proofs.Common.{◌≡◌, ◌≢◌, ℕ, ◌+◌, ◌<◌, ◌⊎◌, arith, sym, ap, subst, ◌∙◌, inl, inr, Bool, true}
use Rattle.qh_model.proofs.Common.{false, List, [], ◌∷◌, get_or, length, take, set, cases_Bool, cases_lt, get_or-set_other, filter, not, Triple, In, IsCornerOf}
use Rattle.{qh_model.proofs.Members.each_of_three, qh_model.proofs.lists.Filters.in_filter, qh_check.specs.steps.CornerMarks.IsMarked}
use Rattle.qh_check.{specs.steps.CornerMarks.is_unmarked, proofs.Prefixes.each_more, proofs.Prefixes.in_more, proofs.Prefixes.last_more}

-- a mark after one more was set before, or is the new one
pub marked_more : (marks : List Bool) (i k : ℕ) → IsMarked (set marks i true) k → IsMarked marks k ⊎ (k ≡ i)
marked_more marks i k m = elim (cases_lt k i) [
  | inl l ↦ inl (before (λ e. omega (arith, e, l)))
  | inr r ↦ elim (cases_lt i k) [ inl l ↦ inl (before (λ e. omega (arith, e, l))) | inr s ↦ inr (omega (arith, r, s)) ]
]
  where
    before : k ≢ i → IsMarked marks k
    before n = sym (get_or-set_other marks i k true false n) ∙ m

-- a corner of the triangles so far stays a corner
pub corner_more : (ts : List Triple) (i : ℕ) (d : Triple) (k : ℕ) → i < length ts → IsCornerOf (take i ts) k → IsCornerOf (take (i + 1) ts) k
corner_more ts i d k l (t, m, h) = (t, in_more ts i d t l m, h)

-- a corner of the current triangle is a corner
pub corner_last : (ts : List Triple) (i : ℕ) (own : Triple) (k : ℕ) → i < length ts → own ≡ get_or ts i own
    → In k (own.i ∷ own.j ∷ own.k ∷ []) → IsCornerOf (take (i + 1) ts) k
corner_last ts i own k l is h = (own, subst (λ (t : Triple). In t (take (i + 1) ts)) (sym is) (last_more ts i own l), h)

-- a fact about corners so far and about those of the current triangle holds for all
pub corners_more : (P : ℕ → Type 0) (ts : List Triple) (i : ℕ) (own : Triple) → i < length ts → own ≡ get_or ts i own
    → ((k : ℕ) → IsCornerOf (take i ts) k → P k) → P own.i → P own.j → P own.k → (k : ℕ) → IsCornerOf (take (i + 1) ts) k → P k
corners_more P ts i own l is f p q r k (t, m, h) =
    each_more (λ t. (k : ℕ) → In k (t.i ∷ t.j ∷ t.k ∷ []) → P k) ts i own own l is (λ s n j g. f j (s, n, g)) (each_of_three P own.i own.j own.k p q r) t m k h

-- a mark after the three corners of the current triangle is that of a corner so far
pub marked_corners : (marks : List Bool) (ts : List Triple) (n : ℕ) (own : Triple) (a b c : ℕ) → n < length ts → own ≡ get_or ts n own
    → a ≡ own.i → b ≡ own.j → c ≡ own.k → ((k : ℕ) → IsMarked marks k → IsCornerOf (take n ts) k)
    → (k : ℕ) → IsMarked (set (set (set marks a true) b true) c true) k → IsCornerOf (take (n + 1) ts) k
marked_corners marks ts n own a b c l is p q r f k m = third (marked_more (set (set marks a true) b true) c k m)
  where
    first : IsMarked marks k ⊎ (k ≡ a) → IsCornerOf (take (n + 1) ts) k
    first (inl h) = corner_more ts n own k l (f k h)
    first (inr e) = corner_last ts n own k l is (inl (e ∙ p))

    second : IsMarked (set marks a true) k ⊎ (k ≡ b) → IsCornerOf (take (n + 1) ts) k
    second (inl h) = first (marked_more marks a k h)
    second (inr e) = corner_last ts n own k l is (inr (inl (e ∙ q)))

    third : IsMarked (set (set marks a true) b true) k ⊎ (k ≡ c) → IsCornerOf (take (n + 1) ts) k
    third (inl h) = second (marked_more (set marks a true) b k h)
    third (inr e) = corner_last ts n own k l is (inr (inr (inl (e ∙ r))))

-- an id is a corner, if the marks are those of corners, or one of the ids without a mark
pub corner_or_unmarked : (ts : List Triple) (marks : List Bool) (ids : List ℕ) (l : ℕ) → (IsMarked marks l → IsCornerOf ts l)
    → In l ids → IsCornerOf ts l ⊎ In l (filter (is_unmarked marks) ids)
corner_or_unmarked ts marks ids l f m = elim (cases_Bool (get_or marks l false)) [
  | inl t ↦ inl (f t)
  | inr t ↦ inr (in_filter (is_unmarked marks) ids l m (ap not t))
]
