-- A part that was tested against each other part stays, and contributes its faces.
use Rattle.qh_model.proofs.Common.{◌≡◌, ℕ, ◌<◌, ◌⊎◌, inl, inr, List, All, Bool, true, length, get_or, sym}
use Rattle.qh_model.proofs.Common.{subst, ap, ◌∙◌, get_or_default, flat_map, HasDistinctPoints, IsIdSet, IsFinished, surface_of, Vector, place, In, Members}
use Rattle.qh_model.proofs.{Members.All-of, Members.In-get_or, Members.to_contains, lists.Joined.in_flat_map, lists.Joined.of_flat_map}
use Rattle.{qh_model.proofs.surfaces.Stored.live_is_marked, qh_mesh.specs.contract.Replacement.IsLive, qh_surface.specs.contract.NamedMeshes.named}
use Rattle.{qh_block.specs.steps.Faces.IsFacetPolygon, qh_laws.specs.contract.Parts.IsPartFace, qh_laws.proofs.Parts.strict_is_clear}
use Rattle.qh_parts_join.specs.contract.Parts.{ids_in, own_in, KeepsCorners, IsPartOf}
use Rattle.{qh_parts_join.specs.declared.parts.Part.Part, qh_parts.specs.contract.Staying.IsStayingPart, qh_parts.specs.steps.Apart.IsApart}

-- the id at a place of a list is one of the list
pub named_there : (xs : List ℕ) (k x : ℕ) → x ≡ get_or xs k x → k < length xs → In x xs
named_there xs k x is within = subst (λ y. In y xs) (sym is) (In-get_or xs k x within)

-- the corners of a part are indices of points
pub own_indices : {pts : List Vector} {shared : List ℕ} {p : Part} → IsPartOf pts shared p → All (λ i. i < length pts) p.own.items
own_indices {pts} {shared} {p} z = All-of (λ i. i < length pts) p.own.items (λ l i. z.indices l (z.inside l i))

-- the shared ids are indices of points
pub shared_indices : {pts : List Vector} {shared : List ℕ} {p : Part} → IsPartOf pts shared p → All (λ i. i < length pts) shared
shared_indices {pts} {shared} {p} z = All-of (λ i. i < length pts) shared (λ l i. z.indices l (z.has_shared l i))

-- the condition on a part for another does not depend on the values past the end of the list
pub apart_at : (pts : List Vector) (parts : List Part) (stay : ℕ → Bool) (k j : ℕ) (p q d e : Part) → k < length parts → j < length parts
    → IsApart pts (get_or parts k p) stay (own_in (get_or parts j q)) → IsApart pts (get_or parts k d) stay (own_in (get_or parts j e))
apart_at pts parts stay k j p q d e hk hj apart =
    rw (get_or_default parts k p d hk) at (subst (λ x. IsApart pts (get_or parts k p) stay (own_in x)) (get_or_default parts j q e hj) apart)

module _ (pts : List Vector) (shared : List ℕ) (parts : List Part) (number : ℕ) (d : Part) (stay : ℕ → Bool)
    (are : All (IsPartOf pts shared) parts) (within : number < length parts) where
  abbrev p : Part
  p = get_or parts number d

  z : IsPartOf pts shared p
  z = are number d within

  -- a kept id is an id of the part or of another part that was tested
  abbrev Split : ℕ → Type 0
  Split l = In l p.ids.items ⊎ ((others : List ℕ) × In l others × IsApart pts p stay others)

  module _ (asked : (j : ℕ) (e : Part) → j < length parts → (j ≡ number) ⊎ IsApart pts p stay (own_in (get_or parts j e))) where
    of_part : (q : Part) → In q parts → (l : ℕ) → In l q.own.items → Split l
    of_part q i l o = by_place (to_contains parts q i)
      where
        by_place : (j : ℕ) × (j < length parts) × (get_or parts j q ≡ q) → Split l
        by_place (j, h, e) = elim (asked j q h) [
          | inl same ↦ (let is : q ≡ p = sym e ∙ ap (λ k. get_or parts k q) same ∙ get_or_default parts number q d within in
              inl (z.inside l (subst (λ x. In l (own_in x)) is o)))
          | inr apart ↦ inr (own_in (get_or parts j q), subst (λ x. In l (own_in x)) (sym e) o, apart)
        ]

    split : (kept : List ℕ) → KeepsCorners parts shared kept → (l : ℕ) → In l kept → Split l
    split kept keeps l i = elim ((keeps l).0 i) [
      | inr s ↦ inl (z.has_shared l s)
      | inl o ↦ (let (q, m, h) = of_flat_map own_in parts l o in of_part q m l h)
    ]

    pub staying_part : IsStayingPart pts shared parts p stay
    staying_part = record {
      seam = λ kept keeps. record {
        answer = λ l i. elim (split kept keeps l i) [
          | inl own ↦ inl (λ f live. z.finished.unseen f live l own)
          | inr (others, m, apart) ↦ apart.seam.answer l m
        ];
        ring = λ f r l i. elim (split kept keeps l i) [
          | inl own ↦ z.finished.unseen f r.live l own
          | inr (others, m, apart) ↦ apart.seam.ring f r l m
        ];
      };
      ring = λ kept keeps g r l i. elim (split kept keeps l i) [ inl own ↦ inl own | inr (others, m, apart) ↦ inr (apart.ring g r l m) ];
    }

  -- the set of a part, with the ids of all parts in a set of distinct points
  module _ (ids : List ℕ) (distinct : HasDistinctPoints (place pts) (Members ids))
      (inside : (l : ℕ) → In l (flat_map ids_in parts) → In l ids) where
    part_inside : (l : ℕ) → In l p.ids.items → In l ids
    part_inside l i = inside l (in_flat_map ids_in parts p l (In-get_or parts number d within) i)

    pub part_set : IsIdSet pts p.ids.items
    part_set = record { rising = z.rising; distinct = λ i j hi hj e. distinct i j (part_inside i hi) (part_inside j hj) e }

    pub part_finished : IsFinished (place pts) p.ids.items (surface_of (named p.surface))
    part_finished = z.finished

  -- the faces of a part that stays
  module _ (staying : IsStayingPart pts shared parts p stay) (ids kept : List ℕ) (distinct : HasDistinctPoints (place pts) (Members ids))
      (inside : (l : ℕ) → In l (flat_map ids_in parts) → In l ids) (keeps : KeepsCorners parts shared kept) where
    pub face_of_part : (q : List ℕ) → (f : ℕ) × IsLive (named p.surface) f × (stay f ≡ true)
        × IsFacetPolygon (place pts) (Members p.ids.items) (named p.surface) f q → IsPartFace (place pts) ids kept q
    face_of_part q (f, live, stays, polygon) = record {
      ids = p.ids.items;
      m = surface_of (named p.surface);
      stay = stay;
      part = record { finished = z.finished; inside = part_inside ids distinct inside; seam = staying.seam kept keeps };
      f = f;
      live = (live_is_marked (named p.surface) f).1 live;
      stays = stays;
      clear = strict_is_clear (place pts) kept p.ids.items (surface_of (named p.surface)) stay z.finished (staying.ring kept keeps) f;
      polygon = polygon;
    }
