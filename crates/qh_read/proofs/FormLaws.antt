-- A completely read file is the file of its points.
use Rattle.qh_model.proofs.Common.{◌≡◌, ◌∙◌, ◌++◌, [], ◌∷◌, ◌≤◌, ℕ, List, true, false, refl, ap, sym, arith, length, subst, cond, same_text}
use Rattle.qh_model.proofs.Common.{AllByRecursion, ℤ, codes, pos, Some, off_words, ReadsOff, ReadsIn, IsCoordinate, number_of, coordinates, Vector, Word}
use Rattle.qh_model.specs.declared.{form.Form.Form, form.Form.TheVariants.Qhull, form.Form.TheVariants.Off, limits.TheConstants.BYTE_LIMIT}
use Rattle.qh_read.specs.contract.Progress.{wants_keyword, wants_vertex_count, wants_face_count, wants_edge_count, started, counted, fails}
use Rattle.qh_read.specs.declared.builder.{Pending.Pending, Trailing.TheVariants.Ignored}
use Rattle.qh_read.{specs.steps.Building.filled_in, specs.steps.Stages.pending_list, specs.steps.SmallTokens.capped, proofs.Lexing.words_in}
use Rattle.qh_read.proofs.ProgressLaws.{counts, is_off, judged, none_left, numbered, reads_points, stays}
use Rattle.qh_model.specs.declared.read_fault.ReadFault.TheVariants as faults

-- if everything that the counts announce was read, the points are those of the OFF file
reads_off : (bs : List ℕ) (ps : List Vector) (q : Pending) → length bs ≤ BYTE_LIMIT → (u : List ℤ) → coordinates ps ++ pending_list q ≡ u
    → (ws : List Word) → off_words bs ≡ ws → filled_in (judged wants_keyword ws) ≡ Some u → ReadsOff bs ps
reads_off bs ps q small u is [] all h = cc
reads_off bs ps q small u is (w ∷ ws) all h =
    elim (is_off w) as (λ b. is_off w ≡ b → filled_in (judged (cond b wants_vertex_count (fails faults.NotOff)) ws) ≡ Some u → ReadsOff bs ps) [
      | false ↦ λ e h. cc (ap filled_in (stays faults.NotOff ws))
      | true ↦ λ e h.
          let vertices = numbered wants_vertex_count wants_face_count refl (λ keyword o line. refl) ws u h in
          let faces = numbered (wants_face_count (capped vertices.z)) (λ z. wants_edge_count (capped vertices.z)) refl (λ keyword o line. refl)
          vertices.rest u vertices.filled in
          let edges = numbered (wants_edge_count (capped vertices.z)) (λ z. counted Ignored (capped vertices.z)) refl (λ keyword o line. refl)
          faces.rest u faces.filled in
          let count = counts Ignored edges.rest u vertices.z edges.filled in
          let filled : u ≡ count.file.filled.more = count.file.filled.all in
          let left = none_left ps q count.n (ap length (is ∙ filled) ∙ count.file.filled.count) in
          let many : length ps ≡ count.n = left.1 in
          let points : coordinates ps ≡ count.file.filled.more = sym left.0 ∙ is ∙ filled in
          let first : number_of vertices.w.text ≡ Some (pos count.n) = vertices.number ∙ ap Some count.is in
          record {
            small = small;
            keyword = w;
            numbered = vertices.w ∷ faces.w ∷ edges.w ∷ count.file.front;
            rest = count.file.rest;
            words = cc (all, vertices.are, faces.are, edges.are, count.file.are);
            is_off = same_text w.text (codes "OFF") (sym e);
            faces = faces.z;
            edges = edges.z;
            numbers = cc (faces.number, edges.number, count.file.filled.are, points, many);
            some = omega (arith, count.some, many);
            few = omega (arith, count.few, many);
            limit = subst (AllByRecursion IsCoordinate) {x = count.file.filled.more} (sym points) count.file.filled.limit;
          }
    ] refl h

pub reads : (form : Form) (bs : List ℕ) (ps : List Vector) (q : Pending) → length bs ≤ BYTE_LIMIT
    → filled_in (judged (started form) (words_in form bs)) ≡ Some (coordinates ps ++ pending_list q) → ReadsIn form bs ps
reads Qhull = reads_points
reads Off = λ bs ps q small. reads_off bs ps q small (coordinates ps ++ pending_list q) refl (off_words bs) refl
