use Rattle.qh_model.proofs.Common.{◌≡◌, ◌∙◌, ◌++◌, List, ℕ, append_assoc, arith, ap, subst, flat_map, BodyValue, IsBodyInOrder}
use Rattle.qh_model.specs.headline.Text.{face_text}
use Rattle.qh_write.proofs.texts.off.push_off.Goals as goal
use Rattle.qh_write.specs.{contract.Pieces.bytes_in, steps.Forms.shown, steps.Numberings.NumberExtremes}
use Rattle.qh_write.proofs.{FormLemmas.shown_in_order, TextLemmas.grown_by_faces, TextLemmas.faces_numbered}

-- four parts after a text
glued : (d l m n p f vs fs o k : List ℕ) → m ≡ l ++ o → n ≡ m ++ k → p ≡ (d ++ n) ++ vs → f ≡ p ++ fs
    → f ≡ (d ++ l) ++ (((o ++ k) ++ vs) ++ fs)
glued d l m n p f vs fs o k a b c e = grind (arith, append_assoc, a, b, c, e)

pub push_faces-requires-clause-numbered : goal.push_faces-requires-clause-numbered
push_faces-requires-clause-numbered g c =
    let body = c.args.body.now in
    let order : IsBodyInOrder body.extremes body.polygons = subst (λ (b : BodyValue). IsBodyInOrder b.extremes b.polygons) c.body.view_is c.body.invariant in
    let extremes : c.deref-2.result.now ≡ body.extremes = c.deref-2.ensures.value ∙ ap (λ (b : BodyValue). b.extremes) c.body.view_is in
    let faces : c.deref-3.result.now ≡ body.polygons = c.deref-3.ensures.value ∙ ap (λ (b : BodyValue). b.polygons) c.body.view_is in
    let numbers = c.in_ok-numbers.numbers in
    let right : NumberExtremes body.extremes numbers = subst (λ (es : List ℕ). NumberExtremes es numbers) extremes c.in_ok-numbers.ensures in
    rw faces (faces_numbered body.extremes numbers body.polygons right order)

pub returns : goal.returns
returns g c =
    let body = c.args.body.now in
    let order : IsBodyInOrder body.extremes body.polygons = subst (λ (b : BodyValue). IsBodyInOrder b.extremes b.polygons) c.body.view_is c.body.invariant in
    let extremes : c.deref-2.result.now ≡ body.extremes = c.deref-2.ensures.value ∙ ap (λ (b : BodyValue). b.extremes) c.body.view_is in
    let faces : c.deref-3.result.now ≡ body.polygons = c.deref-3.ensures.value ∙ ap (λ (b : BodyValue). b.polygons) c.body.view_is in
    let numbers = c.in_ok-numbers.numbers in
    let right : NumberExtremes body.extremes numbers = subst (λ (es : List ℕ). NumberExtremes es numbers) extremes c.in_ok-numbers.ensures in
    let grown : bytes_in c.push_faces.new.text ≡ bytes_in c.push_vertices.new.text ++ flat_map (face_text body.extremes) (shown c.args.form body.polygons) =
    grown_by_faces body.extremes numbers (shown c.args.form body.polygons) _ _ right
    (shown_in_order c.args.form body.extremes body.polygons order) (rw faces at c.in_ok-push_faces.ensures) in
    let ids : c.deref.result.now ≡ body.extremes = c.deref.ensures.value ∙ ap (λ (b : BodyValue). b.extremes) c.body.view_is in
    glued _ _ _ _ _ _ _ _ _ _ c.in_ok-extend_from_slice.ensures.items c.in_ok-push_counts.ensures (rw ids at c.in_ok-push_vertices.ensures) grown
