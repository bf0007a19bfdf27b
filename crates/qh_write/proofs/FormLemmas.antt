-- Faces in a form: those of two parts, and their vertices.
use Rattle.std.proofs.{Common.◌≡◌, Common.ℕ, Common.List, Common.[], Common.◌++◌, Common.refl, lemmas.Grind.flat_map-append}
use Rattle.qh_model.specs.{contract.Bodies.IsBodyInOrder, headline.Fan.fan}
use Rattle.qh_write.specs.declared.texts.forms.FaceForm.{FaceForm, TheVariants.Whole, TheVariants.Fans}
use Rattle.qh_write.{specs.steps.Forms.shown, proofs.FanLemmas.fans_in_order}

-- the faces of two parts, one after the other
pub shown_append : (form : FaceForm) (ps qs : List (List ℕ)) → shown form (ps ++ qs) ≡ shown form ps ++ shown form qs
shown_append Whole ps qs = refl
shown_append Fans ps qs = flat_map-append fan ps qs

-- no faces have no lines
pub shown_none : (form : FaceForm) → shown form [] ≡ []
shown_none Whole = refl
shown_none Fans = refl

-- the faces in a form name only ids of the polygons
pub shown_in_order : (form : FaceForm) (extremes : List ℕ) (qs : List (List ℕ)) → IsBodyInOrder extremes qs → IsBodyInOrder extremes (shown form qs)
shown_in_order Whole extremes qs order = order
shown_in_order Fans extremes qs order = fans_in_order extremes qs order
