-- The list of faces follows the vertices.
use Rattle.std.proofs.Common.{ℕ, ◌≡◌, ◌∙◌, ◌+◌, ◌*◌, List, arith, ap, inl, inr, rules, subst, drop}
use Rattle.std.specs.Prelude.{Some}
use Rattle.qh_read.specs.contract.{FaceFaults.list_fault, FaceFiles.IsFaultOfFaces, FaceFiles.IsOffList}
use Rattle.qh_read.{specs.declared.faces.reading.Layout.Layout, specs.declared.numerals.Numeral.Numeral, specs.steps.Lists.behind, proofs.ListLaws.off-list}
use Rattle.qh_read.specs.declared.faces.reading.Layout.TheVariants as layouts
use Rattle.qh_read.proofs.faces.files.read_off_faces.Goals as goal

pub returns-in_err-polygons-clause-fault : goal.returns-in_err-polygons-clause-fault
returns-in_err-polygons-clause-fault c =
    let bytes = c.args.bytes.now in let vertices = c.in_ok-vertices.vertices.items in let k : ℕ = 1 + 3 * c.len.result in
    let ws : List Numeral = behind k c.skip_words.new.words in
    let list : IsOffList bytes vertices ws =
    rw (c.skip_words.ensures ∙ ap (drop 2) c.of-words.ensures) (off-list bytes vertices k c.in_ok-vertices.ensures.read (omega (arith, c.len.ensures))) in
    let fault : IsFaultOfFaces layouts.Off bytes c.in_err-polygons.field-0.0 =
    elim c.in_err-polygons.ensures.fault [
      | inl m ↦ inl m
      | inr f ↦ inr (inr (vertices, ws, list, subst (λ (layout : Layout). list_fault layout ws ≡ Some c.in_err-polygons.field-0.0) c.requires f))
    ] in
    search (rules, fault)

pub returns-clause-read : goal.returns-clause-read
returns-clause-read c =
    let bytes = c.args.bytes.now in let vertices = c.in_ok-vertices.vertices.items in let k : ℕ = 1 + 3 * c.len.result in
    let list : IsOffList bytes vertices (behind k c.skip_words.new.words) =
    rw (c.skip_words.ensures ∙ ap (drop 2) c.of-words.ensures) (off-list bytes vertices k c.in_ok-vertices.ensures.read (omega (arith, c.len.ensures))) in
    (behind k c.skip_words.new.words, list, c.in_ok-polygons.ensures.ok)
