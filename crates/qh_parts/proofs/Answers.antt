-- A settled point has a witness.
use Rattle.{qh_laws.proofs.Between.between_four_is_below, qh_laws.specs.contract.Between.IsBetweenFour, qh_mesh.specs.contract.Replacement.IsLive}
use Rattle.qh_model.proofs.Common.{◌≡◌, ℕ, ◌⊎◌, inl, inr, List, Bool, false, sym, ◌∙◌, pos, ◌+ℤ◌, ◌≤ℤ◌, ◌<ℤ◌, facet_at, surface_of, Side, Surface, end, first}
use Rattle.qh_model.proofs.{Common.second, Common.third, Common.Vector, Common.place, Common.vol, Common.In, algebra.Order.negative_le}
use Rattle.{qh_model.proofs.surfaces.Stored.live_is_marked, qh_model.specs.contract.Surface.start, qh_parts.specs.declared.seam.triangles.Four.Four}
use Rattle.qh_parts.specs.steps.{Apart.IsApart, Triangles.four_vols, Triangles.IsFourOf, Triangles.IsInCone, Witnesses.IsAnswered, Witnesses.IsRingOver}
use Rattle.{qh_parts_join.specs.contract.Parts.IsPartOf, qh_parts_join.specs.declared.parts.Part.Part, qh_surface.proofs.NamedFacets.named_live}
use Rattle.qh_surface.specs.{contract.NamedMeshes.named, contract.Walks.mark_at, declared.named_mesh.NamedMesh.NamedMesh}

-- a live facet that settles a point is its witness
pub answered : (pts : List Vector) (s : NamedMesh) (stay : List Bool) (o : Four) (f : ℕ) → IsLive s.mesh f
    → (stays : Bool) → stays ≡ mark_at stay f → (a b c p : Vector) → a ≡ place pts (facet_at (named s) f).i → b ≡ place pts (facet_at (named s) f).j
    → c ≡ place pts (facet_at (named s) f).k → ((stays ≡ false) × (pos 0 <ℤ vol a b c p)) ⊎ IsInCone a b c o p
    → IsAnswered (place pts) (surface_of (named s)) (mark_at stay) o p
answered pts s stay o f live stays is a b c p ea eb ec settled = by_cases settled
  where
    there : In f (surface_of (named s)).live
    there = (live_is_marked (named s) f).1 (named_live s f live)

    by_cases : ((stays ≡ false) × (pos 0 <ℤ vol a b c p)) ⊎ IsInCone a b c o p
        → IsAnswered (place pts) (surface_of (named s)) (mark_at stay) o p
    by_cases (inl (gone, sees)) = inl (record { f = f; live = there; gone = sym is ∙ gone; sees = rw (ea, eb, ec) at sees })
    by_cases (inr cone) = inr (f, there, rw (ea, eb, ec) at cone)

module _ (pts : List Vector) (shared : List ℕ) (o : Four) (z : IsFourOf pts shared o) where
  abbrev at : ℕ → Vector
  at = place pts

  -- the three sides of a cone
  cone_between : (m : Surface) (f : ℕ) (p : Vector) → IsInCone (at (m.i f)) (at (m.j f)) (at (m.k f)) o p
      → IsBetweenFour at m z.s z.t z.u z.v f p
  cone_between m f p cone = record { below = cone.below; sides = sides }
    where
      moved : (a b : Vector) → four_vols a b p o ≤ℤ pos 0
          → (vol a b p (at z.s) +ℤ vol a b p (at z.t) +ℤ vol a b p (at z.u) +ℤ vol a b p (at z.v)) ≤ℤ pos 0
      moved a b h = rw (z.s_is, z.t_is, z.u_is, z.v_is) at h

      sides : (e : Side) → let a = at (start m f e) in let b = at (end m f e) in
          (vol a b p (at z.s) +ℤ vol a b p (at z.t) +ℤ vol a b p (at z.u) +ℤ vol a b p (at z.v)) ≤ℤ pos 0
      sides first = moved (at (m.i f)) (at (m.j f)) cone.first
      sides second = moved (at (m.j f)) (at (m.k f)) cone.second
      sides third = moved (at (m.k f)) (at (m.i f)) cone.third

  turned : vol (at z.s) (at z.t) (at z.u) (at z.v) <ℤ pos 0
  turned = rw (z.s_is, z.t_is, z.u_is, z.v_is) at z.turned

  -- witnesses and a tested ring form a seam
  pub apart_of : (p : Part) → IsPartOf pts shared p → (stay : ℕ → Bool) (others : List ℕ)
      → ((l : ℕ) → In l others → IsAnswered at (surface_of (named p.surface)) stay o (at l))
      → IsRingOver at (surface_of (named p.surface)) stay others → IsApart pts p stay others
  apart_of p part stay others answers ring = record {
    seam = record {
      answer = λ l i. elim (answers l i) [
        | inl gone ↦ inr gone
        | inr (f, live, cone) ↦ inl (between_four_is_below at p.ids.items (surface_of (named p.surface)) part.finished z.s z.t z.u z.v
            (part.has_shared z.s z.has_s) (part.has_shared z.t z.has_t) (part.has_shared z.u z.has_u) (part.has_shared z.v z.has_v)
            turned f live (at l) (cone_between (surface_of (named p.surface)) f (at l) cone))
      ];
      ring = λ f r l i. negative_le _ (ring f r l i);
    };
    ring = ring;
  }
