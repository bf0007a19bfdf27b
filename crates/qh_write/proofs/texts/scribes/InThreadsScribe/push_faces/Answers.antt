-- The concatenated parts of the faces are all faces.
use Rattle.std.proofs.Common.{rules, ◌≡◌, ◌<◌, ◌≤◌, ◌*◌, ◌/◌, ◌+◌, ◌∙◌, ℕ, List, length, take, drop, get_or, Result, Vec, Global, arith, ap}
use Rattle.std.proofs.lemmas.{Grind.flat_map-append, Result.on_ok_weaker}
use Rattle.{std.specs.List.flat_map, std.specs.Prelude.IfOk, std.specs.declared.alloc.AllocError.AllocError, qh_write.specs.steps.Forms.shown}
use Rattle.qh_write.{specs.steps.Numberings.face_by_numbers, proofs.FormLemmas.shown_append, proofs.FormLemmas.shown_none, proofs.PartLemmas.parts_of_list}
use Rattle.qh_write.proofs.texts.scribes.InThreadsScribe.push_faces.Goals as goal

pub returns : goal.returns
returns g c =
    let faces = c.args.faces.polygons.now in let form = c.args.faces.form in let line_of = face_by_numbers c.args.faces.numbers.now in
    let lines : List (List ℕ) → List ℕ = λ qs. flat_map line_of (shown form qs) in
    let size = length faces / c.saturating_mul-count.result + 1 in let parts = c.in_ok-parts.parts in
    let len : length parts.items ≡ c.saturating_mul-count.result = omega (arith, c.in_ok-parts.ensures.len) in
    let all : length faces ≤ length parts.items * size =
    omega (arith, c.saturating_mul-count.ensures, c.max.ensures, ap (λ n. n * (length faces / c.saturating_mul-count.result)) len) in
    let each : (i : ℕ) (d : Result (Vec ℕ Global) AllocError) → i < length parts.items
    → IfOk (get_or parts.items i d) (λ t. t.items ≡ lines (take size (drop (i * size) faces))) = search rules in
    on_ok_weaker c.append_parts.result (λ told. told (lines faces) (parts_of_list lines (ap (flat_map line_of) (shown_none form))
    (λ ps qs. ap (flat_map line_of) (shown_append form ps qs) ∙ flat_map-append line_of (shown form ps) (shown form qs))
    size parts.items faces each all))
    c.append_parts.ensures
