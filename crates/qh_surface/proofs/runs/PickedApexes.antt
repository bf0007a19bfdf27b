-- The next apex: facets without an outside set are skipped, and the first point of a set is removed from it.
use Rattle.{qh_model.proofs.Members.in_permutation, qh_mesh.specs.contract.Replacement.IsLive}
use Rattle.std.proofs.lemmas.List.{set-get_or, set-set}
use Rattle.qh_surface.specs.contract.OutsideSets.{OutsideValue, set_of, joined}
use Rattle.qh_surface.proofs.runs.SetWrites.{of_join, join_has, join_keeps, joined_front}
use Rattle.qh_surface.specs.steps.Runs.{height_at, IsDone, AreDone, IsOutside, AreOutside, RunState, with_waiting, with_first, IsUnderWay, IsPicked}
use Rattle.qh_model.proofs.Common.{◌≡◌, ℕ, ◌<◌, arith, ap, sym, ◌∙◌, true, ◌⊎◌, ⊎_elim, inl, inr, List, [], ◌∷◌, All, length}
use Rattle.qh_model.proofs.Common.{drop, subst, slice_set, length-set, get_or-set_same, pos, ◌<ℤ◌, All-head, All-tail, All-permutation, In, IsPermutation}

-- the sets without the first point of the set at f
abbrev pub taken : OutsideValue → ℕ → OutsideValue
taken v f = record { positions = v.positions; orphans = v.orphans; sets = slice_set v.sets f (drop 1 (set_of v f)) }

pub taken_is : (v w : OutsideValue) (f : ℕ) → w.positions ≡ v.positions → w.orphans ≡ v.orphans
    → w.sets ≡ slice_set v.sets f (drop 1 (set_of v f)) → w ≡ taken v f
taken_is v w f p o s i = record { positions = p i; orphans = o i; sets = s i }

-- removing the first of an empty set changes nothing
pub none_taken : (v : OutsideValue) (f : ℕ) → set_of v f ≡ [] → taken v f ≡ v
none_taken v f e =
    let same = ap (λ (xs : List ℕ). slice_set v.sets f (drop 1 xs)) e ∙ ap (slice_set v.sets f) (sym e) ∙ set-get_or v.sets f [] in
    λ i. record { positions = v.positions; orphans = v.orphans; sets = same i }

-- putting the first position of a set back in front restores the set
put_back : (v : OutsideValue) (f a : ℕ) → f < length v.sets → set_of v f ≡ a ∷ drop 1 (set_of v f) → with_first (taken v f) f a ≡ v
put_back v f a l e = λ i. record { positions = v.positions; orphans = v.orphans; sets = same i }
  where
    rest : List ℕ
    rest = drop 1 (set_of v f)

    whole : joined true a (set_of (taken v f) f) ≡ set_of v f
    whole = ap (joined true a) (get_or-set_same v.sets f rest [] l) ∙ joined_front a rest ∙ sym e

    same : slice_set (slice_set v.sets f rest) f (joined true a (set_of (taken v f) f)) ≡ v.sets
    same = ap (slice_set (slice_set v.sets f rest) f) whole ∙ set-set v.sets f rest (set_of v f) ∙ set-get_or v.sets f []

-- other facets can wait, if those with an outside set do
with_pending : {s : RunState} (waiting : List ℕ) → IsUnderWay s → All (λ g. g < length s.sets.sets) waiting
    → ((g p : ℕ) → In p (set_of s.sets g) → In g waiting) → IsUnderWay (with_waiting s s.sets waiting)
with_pending waiting k within waits = record {
  grown = k.grown;
  planes = k.planes;
  positions = k.positions;
  places = k.places;
  range = within;
  outside = k.outside;
  none = k.none;
  waits = waits;
  all = k.all;
}

module _ {s : RunState} (k : IsUnderWay s) (rest : List ℕ) (f : ℕ) (is : IsPermutation s.pending (f ∷ rest)) where
  range : All (λ g. g < length s.sets.sets) (f ∷ rest)
  range = All-permutation (λ g. g < length s.sets.sets) s.pending (f ∷ rest) is k.range

  waits : (g p : ℕ) → In p (set_of s.sets g) → In g (f ∷ rest)
  waits g p i = in_permutation s.pending (f ∷ rest) is g (k.waits g p i)

  -- a facet whose set is empty need not wait
  pub passed_over : set_of s.sets f ≡ [] → IsUnderWay (with_waiting s s.sets rest)
  passed_over e = with_pending rest k (All-tail (λ g. g < length s.sets.sets) f rest range)
      (λ g p i. ⊎_elim (λ n. absurd (subst (In p) (ap (set_of s.sets) n ∙ e) i)) (λ n. n) (waits g p i))

  -- the first point of a set is the apex
  pub picked : {a : ℕ} → set_of s.sets f ≡ a ∷ drop 1 (set_of s.sets f) → a < s.sets.positions
      → IsPicked (with_waiting s (taken s.sets f) rest) f a
  picked {a} e l = record {
    apex = let h = k.positions in omega arith;
    before = rw (put_back s.sets f a (All-head (λ g. g < length s.sets.sets) f rest range) e) (with_pending (f ∷ rest) k range waits);
  }

-- the facts without the apex and its facet
module _ {s : RunState} {f a : ℕ} (k : IsPicked s f a) where
  abbrev sets : List (List ℕ)
  sets = s.sets.sets

  same_length : length (with_first s.sets f a).sets ≡ length sets
  same_length = length-set sets f (joined true a (set_of s.sets f))

  all_within : All (λ g. g < length sets) (f ∷ s.pending)
  all_within = subst (λ n. All (λ g. g < n) (f ∷ s.pending)) same_length k.before.range

  f_within : f < length sets
  f_within = All-head (λ g. g < length sets) f s.pending all_within

  before : (g p : ℕ) → In p (set_of s.sets g) → In p (set_of (with_first s.sets f a) g)
  before g p i = join_keeps sets f true a g p f_within i

  pub pending_within : All (λ g. g < length sets) s.pending
  pending_within = All-tail (λ g. g < length sets) f s.pending all_within

  pub apex_outside : IsLive s.mesh f × (pos 0 <ℤ height_at s.points s.mesh f a)
  apex_outside = k.before.outside f a (join_has sets f true a f_within)

  pub still_outside : AreOutside s.points s.mesh s.sets
  still_outside g p i = k.before.outside g p (before g p i)

  pub still_waits : (g p : ℕ) → In p (set_of s.sets g) → (g ≡ f) ⊎ In g s.pending
  still_waits g p i = k.before.waits g p (before g p i)

  pub still_all : (p : ℕ) → p < length s.points → IsOutside s.sets p ⊎ IsDone s.points s.mesh p ⊎ (p ≡ a)
  still_all p l = elim (k.before.all p l) [
    | inl o ↦ elim (of_join sets f true a o.0 p o.1) [ inl h ↦ inr (inr h.1) | inr h ↦ inl (o.0, h) ]
    | inr d ↦ inr (inl d)
  ]

-- when no facet waits, no facet sees a point
pub all_done : {s : RunState} → s.pending ≡ [] → IsUnderWay s → AreDone s.points s.mesh
all_done none k p l = ⊎_elim (λ o. absurd (subst (In o.0) none (k.waits o.0 p o.1))) (λ d. d) (k.all p l)
