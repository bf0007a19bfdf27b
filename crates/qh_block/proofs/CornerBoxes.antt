-- If the octants of a box have points of a set, a point of the box that is not a corner is not extreme in the set.
use Rattle.qh_model.proofs.Common.{ℕ, ◌≡◌, ⊎_elim, inl, inr, List, [], ◌∷◌, Bool, true, false}
use Rattle.qh_model.proofs.Common.{arith, refl, subst, sym, ints, by_lt_z, All-from_recursion, ℤ, pos, ◌*ℤ◌, ◌≤ℤ◌, Vector, place, Members, Others, Separator}
use Rattle.qh_model.proofs.{Members.All-In, combinations.Alternatives.combination_or_separator, extremes.ExtremeIds.combination_within}
use Rattle.qh_block.specs.{contract.Cells.IsWithin, declared.regions.corner_box.Diagonals.Diagonals}
use Rattle.qh_block.specs.{steps.CornerBoxes.HasEndsOf, steps.CornerBoxes.AreOutward, contract.KeptIds.HasNoExtreme, declared.regions.bounds.Bounds.Bounds}
use Rattle.qh_block.specs.contract.CornerBoxes.{IsBeyond, IsOutward, HasOutward, IsEnd, IsCorner, IsHeldBy}
use Rattle.qh_pred.{specs.contract.Corners.IsUnder, specs.contract.Ranges.IsBetween, proofs.Ranges.beyond}

-- a number of a range that is at or beyond an end is that end
at_end : (s : Bool) (l h n : ℤ) → IsBeyond s l h n → IsBetween l n h → IsEnd l n h
at_end true l h n b w = inr (let p = w.1 in omega (arith, ints, b, p))
at_end false l h n b w = inl (omega (arith, ints, b, w.0))

-- so a point of the box in the octant of a corner is the corner
at_corner : (x y z : Bool) (b : Bounds) (p : Vector) → IsOutward x y z b p → IsWithin b p → IsCorner b p
at_corner x y z b p o w = (at_end x _ _ _ o.0 w.x, at_end y _ _ _ o.1 w.y, at_end z _ _ _ o.2 w.z)

-- the end to which a factor points: beyond it products are at least those in the range
abbrev Points : ℤ → Bool → Type 0
Points a s = (l h n e : ℤ) → IsBeyond s l h e → IsBetween l n h → (a *ℤ n) ≤ℤ (a *ℤ e)

way : (a : ℤ) → (s : Bool) × Points a s
way a = by_lt_z (pos 0) a
    (λ up. (true, λ l h n e b w. beyond a l h n e (λ _. b) (λ down. absurd (omega (arith, ints, up, down))) w))
    (λ down. (false, λ l h n e b w. beyond a l h n e (λ up. absurd (omega (arith, ints, up, down))) (λ _. b) w))

module _ (pts : List Vector) (ids : List ℕ) (b : Bounds) (out : HasOutward pts ids b) where
  -- the id of a point in the octant of a corner
  abbrev id_at : Bool → Bool → Bool → ℕ
  id_at x y z = (out x y z).1.0

  outward : (x y z : Bool) → IsOutward x y z b (place pts (id_at x y z))
  outward x y z = subst (IsOutward x y z b) (sym (out x y z).1.2) (out x y z).2

  -- the ids of all octants
  abbrev eight : List ℕ
  eight =
      id_at true true true ∷ id_at true true false ∷ id_at true false true ∷ id_at true false false
      ∷ id_at false true true ∷ id_at false true false ∷ id_at false false true ∷ id_at false false false ∷ []

  member : (x y z : Bool) → Members eight (id_at x y z)
  member true true true = inl refl
  member true true false = inr (inl refl)
  member true false true = inr (inr (inl refl))
  member true false false = inr (inr (inr (inl refl)))
  member false true true = inr (inr (inr (inr (inl refl))))
  member false true false = inr (inr (inr (inr (inr (inl refl)))))
  member false false true = inr (inr (inr (inr (inr (inr (inl refl))))))
  member false false false = inr (inr (inr (inr (inr (inr (inr (inl refl)))))))

  module _ (i : ℕ) (held : IsHeldBy b (place pts i)) where
    -- these ids are ids of the set, and different from that of the point
    one_other : (x y z : Bool) → Others (Members ids) i (id_at x y z)
    one_other x y z = (
      (out x y z).1.1,
      λ same. held.1 (at_corner x y z b (place pts i) (subst (λ j. IsOutward x y z b (place pts j)) same (outward x y z)) held.0),
    )

    others : (j : ℕ) → Members eight j → Others (Members ids) i j
    others j = All-In (Others (Members ids) i) eight j
        (All-from_recursion (Others (Members ids) i) eight (
          one_other true true true,
          (
            one_other true true false,
            (
              one_other true false true,
              (
                one_other true false false,
                (one_other false true true, (one_other false true false, (one_other false false true, (one_other false false false, tt)))),
              ),
            ),
          ),
        ))

    -- the point is beyond all of them along no direction
    not_beyond : ¬ (Separator (place pts) (Members eight) (place pts i))
    not_beyond s =
        let x = way s.w.x in let y = way s.w.y in let z = way s.w.z in let w = held.0 in let o = outward x.0 y.0 z.0 in
        omega (arith, ints, x.1 _ _ _ _ o.0 w.x, y.1 _ _ _ _ o.1 w.y, z.1 _ _ _ _ o.2 w.z, s.past (id_at x.0 y.0 z.0) (member x.0 y.0 z.0))

pub box_has_no_extreme : (pts : List Vector) (ids : List ℕ) (b : Bounds) → HasOutward pts ids b → HasNoExtreme pts ids (IsHeldBy b)
box_has_no_extreme pts ids b out i m held extreme =
    ⊎_elim (λ combination. extreme.1 (combination_within (place pts) (Members (eight pts ids b out)) (Others (Members ids) i) (place pts i)
    combination (others pts ids b out i held)))
    (λ separator. not_beyond pts ids b out i held separator) (combination_or_separator (place pts) (eight pts ids b out) (place pts i))

-- each octant has an end of a diagonal
pub ends_are_outward : (pts : List Vector) (ids : List ℕ) (d : Diagonals) (b : Bounds) → HasEndsOf pts ids d → AreOutward d b → HasOutward pts ids b
ends_are_outward pts ids d b e o true true true = (d.up_up.front, e.up_up.0, o.up_up.0)
ends_are_outward pts ids d b e o true true false = (d.up_down.front, e.up_down.0, o.up_down.0)
ends_are_outward pts ids d b e o true false true = (d.down_up.front, e.down_up.0, o.down_up.0)
ends_are_outward pts ids d b e o true false false = (d.down_down.front, e.down_down.0, o.down_down.0)
ends_are_outward pts ids d b e o false false false = (d.up_up.back, e.up_up.1, o.up_up.1)
ends_are_outward pts ids d b e o false false true = (d.up_down.back, e.up_down.1, o.up_down.1)
ends_are_outward pts ids d b e o false true false = (d.down_up.back, e.down_up.1, o.down_up.1)
ends_are_outward pts ids d b e o false true true = (d.down_down.back, e.down_down.1, o.down_down.1)

-- ---- the sides of the box
under_all : {p q r : Vector} → IsUnder p q → IsUnder q r → IsUnder p r
under_all a b = let x = a.x in let y = a.y in let z = a.z in
    record { x = omega (arith, ints, x, b.x); y = omega (arith, ints, y, b.y); z = omega (arith, ints, z, b.z) }

-- a point under four others
pub record IsUnderFour (v p q r s : Vector) : Type 0 where
  pub one : IsUnder v p
  pub two : IsUnder v q
  pub three : IsUnder v r
  pub four : IsUnder v s

-- four points under another
pub record AreUnder (v p q r s : Vector) : Type 0 where
  pub one : IsUnder p v
  pub two : IsUnder q v
  pub three : IsUnder r v
  pub four : IsUnder s v

pub under_four : {v a b p q r s : Vector} → IsUnder a p × IsUnder a q → IsUnder b r × IsUnder b s → IsUnder v a × IsUnder v b → IsUnderFour v p q r s
under_four f g h = record { one = under_all h.0 f.0; two = under_all h.0 f.1; three = under_all h.1 g.0; four = under_all h.1 g.1 }

pub four_under : {v a b p q r s : Vector} → IsUnder p a × IsUnder q a → IsUnder r b × IsUnder s b → IsUnder a v × IsUnder b v → AreUnder v p q r s
four_under f g h = record { one = under_all f.0 h.0; two = under_all f.1 h.0; three = under_all g.0 h.1; four = under_all g.1 h.1 }

-- each side is no further out than the four ends in its direction
pub box_is_outward : (d : Diagonals) (b : Bounds) (east west north south top bottom : Vector)
    → b.high.x ≡ east.x → b.high.y ≡ north.y → b.high.z ≡ top.z → b.low.x ≡ west.x → b.low.y ≡ south.y → b.low.z ≡ bottom.z
    → IsUnderFour east d.up_up.front d.up_down.front d.down_up.front d.down_down.front
    → IsUnderFour north d.up_up.front d.up_down.front d.down_up.back d.down_down.back
    → IsUnderFour top d.up_up.front d.up_down.back d.down_up.front d.down_down.back → AreUnder west d.up_up.back d.up_down.back d.down_up.back d.down_down.back
    → AreUnder south d.up_up.back d.up_down.back d.down_up.front d.down_down.front
    → AreUnder bottom d.up_up.back d.up_down.front d.down_up.back d.down_down.front → AreOutward d b
box_is_outward d b east west north south top bottom hx hy hz lx ly lz e n t w s u =
    record {
      up_up = ((rw hx e.one.x, rw hy n.one.y, rw hz t.one.z), (rw lx w.one.x, rw ly s.one.y, rw lz u.one.z));
      up_down = ((rw hx e.two.x, rw hy n.two.y, rw lz u.two.z), (rw lx w.two.x, rw ly s.two.y, rw hz t.two.z));
      down_up = ((rw hx e.three.x, rw ly s.three.y, rw hz t.three.z), (rw lx w.three.x, rw hy n.three.y, rw lz u.three.z));
      down_down = ((rw hx e.four.x, rw ly s.four.y, rw lz u.four.z), (rw lx w.four.x, rw hy n.four.y, rw hz t.four.z));
    }
