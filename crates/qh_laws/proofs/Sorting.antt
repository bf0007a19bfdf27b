-- Insertion sort: the members of a list, each before the next.
use Rattle.qh_model.proofs.Common.{◌≡◌, ◌∙◌, List, [], ◌∷◌, ◌⊎◌, inl, inr, ⊎_elim, refl, ◌↔◌, In}

-- one element comes before the other, or they are equal
abbrev pub Compare : {X : Type 0} → (X → X → Type 0) → X → X → Type 0
Compare R x y = R x y ⊎ ((x ≡ y) ⊎ R y x)

-- each element from t on comes before the next
abbrev pub Rises : {X : Type 0} → (X → X → Type 0) → X → List X → Type 0
Rises R t [] = Unit {0}
Rises R t (y ∷ ys) = R t y × Rises R y ys

-- each element comes before the next
abbrev pub InRow : {X : Type 0} → (X → X → Type 0) → List X → Type 0
InRow R [] = Unit {0}
InRow R (y ∷ ys) = Rises R y ys

-- the members of a list as a row, in which each comes before the next
pub record Sorted {X : Type 0} (R : X → X → Type 0) (xs : List X) : Type 0 where
  pub list : List X
  pub row : InRow R list
  pub members : (x : X) → In x list ↔ In x xs

-- the members of a row and x, as a row; it rises from any element that comes before x and from which the old row rose
record Inserted {X : Type 0} (R : X → X → Type 0) (x : X) (ys : List X) : Type 0 where
  list : List X
  row : InRow R list
  after : (t : X) → R t x → Rises R t ys → Rises R t list
  members : (z : X) → In z list ↔ In z (x ∷ ys)

-- a row without its first is a row
row_tail : {X : Type 0} (R : X → X → Type 0) (y : X) (ys : List X) → Rises R y ys → InRow R ys
row_tail R y [] r = tt
row_tail R y (z ∷ zs) r = r.1

module _ {X : Type 0} (R : X → X → Type 0) (A : X → Type 0) (compare : (x y : X) → A x → A y → Compare R x y) where
  -- x is inserted into a row
  inserted : (x : X) (ys : List X) → A x → ((y : X) → In y ys → A y) → InRow R ys → Inserted R x ys
  inserted x [] a f o = record { list = x ∷ []; row = tt; after = λ t l r. (l, tt); members = λ z. (λ i. i, λ i. i) }
  inserted x (y ∷ ys) a f o = placed (compare x y a (f y (inl refl))) (inserted x ys a (λ z i. f z (inr i)) (row_tail R y ys o))
    where
      placed : Compare R x y → Inserted R x ys → Inserted R x (y ∷ ys)
      placed (inl l) s = record { list = x ∷ y ∷ ys; row = (l, o); after = λ t k r. (k, (l, o)); members = λ z. (λ i. i, λ i. i) }
      placed (inr (inl e)) s = record { list = y ∷ ys; row = o; after = λ t k r. r; members = λ z. (λ i. inr i, λ i. ⊎_elim (λ d. inl (d ∙ e)) (λ j. j) i) }
      placed (inr (inr g)) s = record { list = y ∷ s.list; row = s.after y g o; after = λ t k r. (r.0, s.after y g o); members = λ z. (there z, back z) }
        where
          swapped : (z : X) → In z (x ∷ ys) → In z (x ∷ y ∷ ys)
          swapped z (inl e) = inl e
          swapped z (inr i) = inr (inr i)

          there : (z : X) → In z (y ∷ s.list) → In z (x ∷ y ∷ ys)
          there z (inl e) = inr (inl e)
          there z (inr i) = swapped z ((s.members z).0 i)

          back : (z : X) → In z (x ∷ y ∷ ys) → In z (y ∷ s.list)
          back z (inl e) = inr ((s.members z).1 (inl e))
          back z (inr (inl e)) = inl e
          back z (inr (inr i)) = inr ((s.members z).1 (inr i))

  -- a list can be sorted if any two of its members compare
  pub sorted : (xs : List X) → ((x : X) → In x xs → A x) → Sorted R xs
  sorted [] f = record { list = []; row = tt; members = λ x. (λ i. i, λ i. i) }
  sorted (x ∷ xs) f = inserted_into (sorted xs (λ y i. f y (inr i)))
    where
      inserted_into : Sorted R xs → Sorted R (x ∷ xs)
      inserted_into s =
          let t = inserted x s.list (f x (inl refl)) (λ y i. f y (inr ((s.members y).0 i))) s.row in
          record {
            list = t.list;
            row = t.row;
            members = λ y. (
              λ i. ⊎_elim (λ e. inl e) (λ j. inr ((s.members y).0 j)) ((t.members y).0 i),
              λ i. (t.members y).1 (⊎_elim (λ e. inl e) (λ j. inr ((s.members y).1 j)) i),
            );
          }
