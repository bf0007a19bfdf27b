-- Lists of facets without repetition, and the list of their sides.
use Rattle.qh_model.proofs.Common.{◌≡◌, ◌≢◌, ℕ, ◌+◌, ◌*◌, ◌/◌, ◌<◌, ◌++◌, arith, sym, refl, subst, true, false, cond, nat_eq, inl, inr, List, [], ◌∷◌, length}
use Rattle.qh_model.proofs.Common.{slice_index, both_ways, cases_lt, eq-eqb, StoredFacet, Side, first, second, third, In, Once}
use Rattle.std.proofs.lemmas.Bool.Decides.{eqb_tells}
use Rattle.qh_model.proofs.{Members.All-In, Members.In-get_or, lists.Joined.once_append, lists.OnceEach.once_place}
use Rattle.qh_mesh.specs.contract.{Edges.edge_of, Replacement.sides_of, Replacement.is_listed, Replacement.IsLive, Replacement.AreFacets}
use Rattle.qh_mesh.proofs.EdgeSides.{edge-facet}

-- a member is listed
pub in_listed : (vs : List ℕ) (f : ℕ) → In f vs → is_listed vs f ≡ true
in_listed [] f i = absurd i
in_listed (v ∷ vs) f (inl e) = rw (eq-eqb v f (sym e)) refl
in_listed (v ∷ vs) f (inr i) =
    elim (nat_eq v f) as (λ b. cond b true (is_listed vs f) ≡ true) [ true ↦ refl | false ↦ in_listed vs f i ]

-- an element that is listed is a member
pub listed_in : (vs : List ℕ) (f : ℕ) → is_listed vs f ≡ true → In f vs
listed_in [] f e = absurd (cc)
listed_in (v ∷ vs) f e = elim (eqb_tells v f) [ inl t ↦ inl (sym t.1) | inr t ↦ inr (listed_in vs f (rw t.0 at e)) ]

-- a facet that is not listed has no position in the list
pub unlisted_at : (vs : List ℕ) (f : ℕ) → is_listed vs f ≡ false → (j : ℕ) → j < length vs → slice_index vs j ≢ f
unlisted_at vs f u j l e = both_ways (is_listed vs f) u (in_listed vs f (subst (λ g. In g vs) e (In-get_or vs j 0 l)))

-- one more facet, which is not in the list
pub once_push : (vs : List ℕ) (f : ℕ) → Once vs → ¬ (In f vs) → Once (vs ++ f ∷ [])
once_push = grind (arith, once_append)

-- without repetition, no two positions have the same facet
pub once_apart : (vs : List ℕ) → Once vs → (i j : ℕ) → i < j → j < length vs → slice_index vs i ≢ slice_index vs j
once_apart vs o i j l m e = let n = once_place 0 vs o i j (omega arith) m e in omega arith

-- a listed facet is live
pub listed_live : (fs : List StoredFacet) (vs : List ℕ) → AreFacets fs vs → (f : ℕ) → is_listed vs f ≡ true → IsLive fs f
listed_live fs vs a f e = All-In (IsLive fs) vs f a.live (listed_in vs f e)

-- an edge of a listed facet is one of the sides
pub in_sides : (vs : List ℕ) (x : ℕ) → is_listed vs (x / 3) ≡ true → In x (sides_of vs)
in_sides [] x e = absurd (cc)
in_sides (v ∷ vs) x e = elim (eqb_tells v (x / 3)) [
  | inr t ↦ inr (inr (inr (in_sides vs x (rw t.0 at e))))
  | inl t ↦ elim (cases_lt x (3 * v + 1)) [
    | inl h ↦ inl (omega arith)
    | inr h ↦ elim (cases_lt x (3 * v + 2)) [ inl g ↦ inr (inl (omega arith)) | inr g ↦ inr (inr (inl (omega arith))) ]
  ]
]

-- each side belongs to a listed facet
pub of_sides : (vs : List ℕ) (x : ℕ) → In x (sides_of vs) → is_listed vs (x / 3) ≡ true
of_sides [] x i = absurd i
of_sides (v ∷ vs) x (inl e) = rw (eq-eqb v (x / 3) (omega arith)) refl
of_sides (v ∷ vs) x (inr (inl e)) = rw (eq-eqb v (x / 3) (omega arith)) refl
of_sides (v ∷ vs) x (inr (inr (inl e))) = rw (eq-eqb v (x / 3) (omega arith)) refl
of_sides (v ∷ vs) x (inr (inr (inr i))) =
    elim (nat_eq v (x / 3)) as (λ b. cond b true (is_listed vs (x / 3)) ≡ true) [ true ↦ refl | false ↦ of_sides vs x i ]

-- each side occurs once
pub once_sides : (vs : List ℕ) → Once vs → Once (sides_of vs)
once_sides [] o = tt
once_sides (v ∷ vs) o =
    let other : (s : Side) → In (edge_of v s) (sides_of vs) → ⊥ =
    (λ s i. o.0 (listed_in vs v (subst (λ f. is_listed vs f ≡ true) (edge-facet v s) (of_sides vs (edge_of v s) i)))) in (
      elim [ inl e ↦ omega arith | inr (inl e) ↦ omega arith | inr (inr i) ↦ other first i ],
      (elim [ inl e ↦ omega arith | inr i ↦ other second i ], (other third, once_sides vs o.1)),
    )
