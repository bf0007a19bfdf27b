-- Cells between planes: their parts, and the points that they hold.
use Rattle.qh_model.proofs.Common.{◌≡◌, ◌⊎◌, ◌<◌, ⊎_elim, inl, inr, ℕ, List, [], ◌∷◌, ◌++◌, arith, length, subst, suc, sym, range_with_len, pos, ◌<ℤ◌, Vector}
use Rattle.qh_model.proofs.{Common.In, Members.All-In, lists.Joined.in_append, lists.Ranges.range_has}
use Rattle.qh_pred.specs.contract.Planes.{PlaneValue, height}
use Rattle.qh_block.specs.contract.Cells.{numbered, IsBelow, IsCellOf, IsHeld, IsWithin, AreNear}
use Rattle.qh_block.specs.declared.regions.{bounds.Bounds.Bounds, cells.Cell.Cell}

-- all planes are near a box if all numbers are listed
pub all_near : (b : Bounds) (count : ℕ) (near : List ℕ) → near ≡ range_with_len 0 count → (planes : List PlaneValue) → length planes ≡ count
    → AreNear planes b near
all_near b count near is planes long k h = inr (subst (In k) (sym is) (range_has count k (subst (λ n. k < n) long h)))

-- each of the planes near a cell is above all of a part, listed, or among the remaining ones
pub record AreSifted (planes : List PlaneValue) (b : Bounds) (near listed rest : List ℕ) : Type 0 where
  pub each : (k : ℕ) → In k near → IsBelow b (numbered planes k) ⊎ (In k listed ⊎ In k rest)

-- at the start all planes remain
pub none_sifted : (planes : List PlaneValue) (b : Bounds) (near listed : List ℕ) → AreSifted planes b near listed near
none_sifted planes b near listed = record { each = λ k i. inr (inr i) }

module _ {planes : List PlaneValue} {b : Bounds} {near listed rest more : List ℕ} {next : ℕ} (is : rest ≡ next ∷ more)
    (old : AreSifted planes b near listed rest) where
  -- the next plane is above
  pub next_above : IsBelow b (numbered planes next) → AreSifted planes b near listed more
  next_above below = record { each = λ k i. ⊎_elim (λ h. inl h) (λ h. ⊎_elim (λ l. inr (inl l)) (to_come k) h) (old.each k i) }
    where
      to_come : (k : ℕ) → In k rest → IsBelow b (numbered planes k) ⊎ (In k listed ⊎ In k more)
      to_come k m = ⊎_elim (λ e. inl (subst (λ n. IsBelow b (numbered planes n)) (sym e) below)) (λ n. inr (inr n)) (subst (In k) is m)

  -- the next plane is listed
  pub next_kept : AreSifted planes b near (listed ++ next ∷ []) more
  next_kept = record {
    each = λ k i. ⊎_elim (λ h. inl h)
        (λ h. ⊎_elim (λ l. inr (inl (in_append listed (next ∷ []) k (inl l)))) (to_come k) h) (old.each k i);
  }
    where
      to_come : (k : ℕ) → In k rest → IsBelow b (numbered planes k) ⊎ (In k (listed ++ next ∷ []) ⊎ In k more)
      to_come k m = ⊎_elim (λ e. inr (inl (in_append listed (next ∷ []) k (inr (inl e))))) (λ n. inr (inr n)) (subst (In k) is m)

-- if no plane remains, the part is a cell between all planes between which the whole is a cell
pub part_is_cell : {planes : List PlaneValue} {b : Bounds} {near listed rest : List ℕ} (whole : Bounds) → AreSifted planes b near listed rest
    → rest ≡ [] → ((p : Vector) → IsWithin b p → IsWithin whole p) → AreNear planes whole near → AreNear planes b listed
part_is_cell whole sifted is within all k h =
    ⊎_elim (λ below. inl (λ p w. below p (within p w)))
    (λ n. ⊎_elim (λ b. inl b) (λ b. ⊎_elim (λ l. inr l) (λ m. absurd (subst (In k) is m)) b) (sifted.each k n)) (all k h)

-- a smaller box with the same planes is a cell, too
pub lesser_is_cell : (planes : List PlaneValue) (whole b : Bounds) (near : List ℕ) → ((p : Vector) → IsWithin b p → IsWithin whole p)
    → AreNear planes whole near → AreNear planes b near
lesser_is_cell planes whole b near within all k h = ⊎_elim (λ below. inl (λ p w. below p (within p w))) (λ n. inr n) (all k h)

-- ---- the points that a cell holds
-- a plane of the list has a number
number_of : (planes : List PlaneValue) (plane : PlaneValue) → In plane planes → (k : ℕ) × (k < length planes) × (numbered planes k ≡ plane)
number_of [] plane m = absurd m
number_of (q ∷ qs) plane (inl e) = (0, omega arith, sym e)
number_of (q ∷ qs) plane (inr m) = let r = number_of qs plane m in (suc r.0, omega (arith, r.1), r.2)

-- a point that a cell holds is strictly below each plane of the list
pub held_is_below : (planes : List PlaneValue) (c : Cell) (p : Vector) → IsCellOf planes c → IsHeld planes c p → (plane : PlaneValue) → In plane planes
    → height plane p <ℤ pos 0
held_is_below planes c p cell held plane i =
    let at = number_of planes plane i in
    rw at.2 at (⊎_elim (λ below. below p held.1) (λ near. All-In (λ k. height (numbered planes k) p <ℤ pos 0) c.near.items at.0 held.2 near) (cell at.0 at.1))
