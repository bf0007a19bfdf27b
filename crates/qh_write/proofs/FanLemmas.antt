-- Fans as they are written: their ids, their number, and the remaining ones.
use Rattle.std.proofs.Common.{◌≡◌, ◌∙◌, ℕ, suc, ◌+◌, ◌-◌, ◌<◌, List, [], ◌∷◌, length, arith, ap, sym, refl, get_or, drop, drop-cons, add-one, max}
use Rattle.qh_model.specs.{contract.Bodies.IsBodyInOrder, headline.Fan.triangles_along, headline.Fan.fan, headline.Fan.fans}
use Rattle.qh_model.proofs.{lists.Joined.of_flat_map, polygons.Fans.fan_members}

-- the fans name only ids of the polygons
pub fans_in_order : (extremes : List ℕ) (qs : List (List ℕ)) → IsBodyInOrder extremes qs → IsBodyInOrder extremes (fans qs)
fans_in_order extremes qs order = record {
  rising = order.rising;
  named = λ t m i h. let r = of_flat_map fan qs t m in order.named r.0 r.1 i (fan_members r.0 t r.2 i h);
}

-- the number of triangles along a list is the number of its ids
length-triangles_along : (first u : ℕ) (r : List ℕ) → length (triangles_along first u r) ≡ length r
length-triangles_along first u [] = refl
length-triangles_along first u (v ∷ r) = ap suc (length-triangles_along first v r)

-- the length of the fan of a polygon
pub fan_length : (q : List ℕ) → length (fan q) ≡ max 1 (length q - 2)
fan_length [] = refl
fan_length (a ∷ []) = refl
fan_length (a ∷ b ∷ []) = refl
fan_length (a ∷ b ∷ c ∷ r) = let e = length-triangles_along a b (c ∷ r) in omega arith

-- the remaining elements of a list, beginning at a position
pub drop_next : {X : Type 0} (xs : List X) (i : ℕ) (x : X) → i < length xs → x ≡ get_or xs i x → drop i xs ≡ x ∷ drop (i + 1) xs
drop_next xs i x h e = drop-cons xs i x h ∙ ap (λ t. t ∷ drop (suc i) xs) (sym e) ∙ ap (λ k. x ∷ drop k xs) (sym (add-one i))
