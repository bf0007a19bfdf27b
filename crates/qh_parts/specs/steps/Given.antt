-- Faces that the parts of a set contribute.
-- This project's own.
use Rattle.std.specs.{Prelude.ℕ, Prelude.List, List.flat_map}
use Rattle.qh_model.specs.{contract.IdSets.HasDistinctPoints, headline.Vector.Vector, headline.Predicates.place, headline.Sets.In, headline.Sets.Members}
use Rattle.qh_laws.specs.contract.Parts.{IsPartFace}
use Rattle.qh_parts_join.specs.{contract.Parts.ids_in, contract.Parts.KeepsCorners, declared.parts.Part.Part}
use Rattle.qh_parts.specs.{contract.Staying.CloseUp, declared.given.Contribution.Contribution, declared.given.Contributions.Contributions}

-- each polygon is that of a facet that stays in a part, for every set that has the ids of all parts
abbrev pub AreGiven : List Vector → List ℕ → List Part → List (List ℕ) → Type 0
AreGiven pts shared parts qs = (ids kept : List ℕ) → HasDistinctPoints (place pts) (Members ids)
    → ((l : ℕ) → In l (flat_map ids_in parts) → In l ids) → KeepsCorners parts shared kept
    → (q : List ℕ) → In q qs → IsPartFace (place pts) ids kept q

-- these polygons, and others with which they close up
abbrev pub AreGivenOf : List Vector → List ℕ → List Part → (qs gone : List (List ℕ)) → Type 0
AreGivenOf pts shared parts qs gone = AreGiven pts shared parts qs × CloseUp pts parts qs gone

-- the same for the faces of a part's contribution, and those that are removed
abbrev pub IsContribution : List Vector → List ℕ → List Part → Contribution → Type 0
IsContribution pts shared parts c = AreGivenOf pts shared parts c.faces c.gone.items

-- the same for the contributions of all parts
abbrev pub IsGiven : List Vector → List ℕ → List Part → Contributions → Type 0
IsGiven pts shared parts g = AreGivenOf pts shared parts g.faces g.gone.items
