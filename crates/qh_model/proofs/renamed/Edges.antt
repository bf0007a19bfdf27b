-- The edges of a set that is renamed in its order.
use Rattle.qh_model.proofs.Common.{Follows, In, IsEdge, IsEdgeCount, List, Vector, ap, arith, inl, inr, length-map, map, subst, sym, ℕ, ⊎_elim, ◌<◌, ◌∙◌, ◌≡◌}
use Rattle.qh_model.proofs.{Common.◌⊎◌, lists.Images.in_map, lists.Images.of_map, lists.Images.once_map, polygons.Neighbours.follows_members}
use Rattle.qh_model.proofs.renamed.Lists.{AreWithin, follows_map, of_follows_map}
use Rattle.qh_model.proofs.renamed.Renaming.{IsRenaming, renaming_apart, renaming_falls}

module _ {at at' : ℕ → Vector} {A B : ℕ → Type 0} {f g : ℕ → ℕ} (r : IsRenaming at at' A B f g) where
  -- the members of an edge
  edge_members : (qs : List (List ℕ)) → AreWithin A qs → (u v : ℕ) → IsEdge qs u v → A u × A v
  edge_members = grind (arith, follows_members)

  -- an edge with renamed ends
  edge_renamed : (qs : List (List ℕ)) → AreWithin A qs → (u v : ℕ) → IsEdge qs u v → IsEdge (map (map f) qs) (f u) (f v)
  edge_renamed qs within u v (h, (q, m, n)) =
      let ends = edge_members qs within u v (h, (q, m, n)) in
      (r.rises u v ends.0 ends.1 h, (map f q, in_map (map f) qs q m, ⊎_elim (λ s. inl (follows_map f u v q s)) (λ s. inr (follows_map f v u q s)) n))

  -- an edge of the names is an edge of ids
  of_edge_renamed : (qs : List (List ℕ)) → AreWithin A qs → (u v : ℕ) → IsEdge (map (map f) qs) u v → (a : ℕ) × (b : ℕ) × IsEdge qs a b × (u ≡ f a) × (v ≡ f b)
  of_edge_renamed qs within u v (h, (p, m, n)) = from (of_map (map f) qs p m) n
    where
      lower : (a b : ℕ) → A a → A b → u ≡ f a → v ≡ f b → a < b
      lower a b x y d e = renaming_falls r a b x y (subst (λ t. t < f b) d (subst (λ t. u < t) e h))

      from : (q : List ℕ) × In q qs × (p ≡ map f q) → Follows u v p ⊎ Follows v u p → (a : ℕ) × (b : ℕ) × IsEdge qs a b × (u ≡ f a) × (v ≡ f b)
      from (q, i, s) (inl w) =
          let o = of_follows_map f u v q (subst (Follows u v) s w) in let e = follows_members o.0 o.1 q o.2 in
          (o.0, o.1, (lower o.0 o.1 (within q i o.0 e.0) (within q i o.1 e.1) o.3 o.4, (q, i, inl o.2)), o.3, o.4)
      from (q, i, s) (inr w) =
          let o = of_follows_map f v u q (subst (Follows v u) s w) in let e = follows_members o.0 o.1 q o.2 in
          (o.1, o.0, (lower o.1 o.0 (within q i o.1 e.1) (within q i o.0 e.0) o.4 o.3, (q, i, inr o.2)), o.4, o.3)

  -- the number of edges stays the same
  pub edge_count_renamed : (qs : List (List ℕ)) (n : ℕ) → AreWithin A qs → IsEdgeCount qs n → IsEdgeCount (map (map f) qs) n
  edge_count_renamed qs n within c = record {
    list = map both c.list;
    once = once_map both c.list (λ p q i j e. same p q (edge p i) (edge q j) e) c.once;
    all = λ u v. (
      λ m. let (p, i, e) = of_map both c.list (u, v) m in
          subst (λ (x : ℕ × ℕ). IsEdge (map (map f) qs) x.0 x.1) (sym e) (edge_renamed qs within p.0 p.1 (edge p i)),
      λ e. let (a, b, old, d, s) = of_edge_renamed qs within u v e in
          subst (λ x. In x (map both c.list)) (λ i. (sym d i, sym s i)) (in_map both c.list (a, b) ((c.all a b).1 old)),
    );
    count = length-map c.list both ∙ c.count;
  }
    where
      both : ℕ × ℕ → ℕ × ℕ
      both p = (f p.0, f p.1)

      edge : (p : ℕ × ℕ) → In p c.list → IsEdge qs p.0 p.1
      edge (u, v) i = (c.all u v).0 i

      same : (p q : ℕ × ℕ) → IsEdge qs p.0 p.1 → IsEdge qs q.0 q.1 → both p ≡ both q → p ≡ q
      same p q d e h =
          let ends_p = edge_members qs within p.0 p.1 d in
          let ends_q = edge_members qs within q.0 q.1 e in
          let first = renaming_apart r p.0 q.0 ends_p.0 ends_q.0 (ap (λ (x : ℕ × ℕ). x.0) h) in
          let second = renaming_apart r p.1 q.1 ends_p.1 ends_q.1 (ap (λ (x : ℕ × ℕ). x.1) h) in
          λ i. (first i, second i)
