-- The concatenated parts of the vertices are all vertices.
use Rattle.std.proofs.Common.{rules, ◌≡◌, ◌<◌, ◌≤◌, ◌*◌, ◌/◌, ◌+◌, ℕ, List, length, take, drop, get_or, Result, Vec, Global, arith, refl, ap}
use Rattle.std.proofs.lemmas.{Grind.flat_map-append, Result.on_ok_weaker}
use Rattle.std.specs.{List.flat_map, Prelude.IfOk, declared.alloc.AllocError.AllocError}
use Rattle.{qh_model.specs.headline.Predicates.place, qh_model.specs.headline.Text.vertex_text, qh_write.proofs.PartLemmas.parts_of_list}
use Rattle.qh_write.proofs.texts.scribes.InThreadsScribe.push_vertices.Goals as goal

pub returns : goal.returns
returns g c =
    let ids = c.args.vertices.ids.now in
    let line_of : ℕ → List ℕ = λ i. vertex_text (place c.args.vertices.pts.now i) in
    let size = length ids / c.saturating_mul-count.result + 1 in let parts = c.in_ok-parts.parts in
    let len : length parts.items ≡ c.saturating_mul-count.result = omega (arith, c.in_ok-parts.ensures.len) in
    let all : length ids ≤ length parts.items * size =
    omega (arith, c.saturating_mul-count.ensures, c.max.ensures, ap (λ n. n * (length ids / c.saturating_mul-count.result)) len) in
    let each : (i : ℕ) (d : Result (Vec ℕ Global) AllocError) → i < length parts.items
    → IfOk (get_or parts.items i d) (λ t. t.items ≡ flat_map line_of (take size (drop (i * size) ids))) = search rules in
    on_ok_weaker c.append_parts.result (λ told. told (flat_map line_of ids)
    (parts_of_list (flat_map line_of) refl (λ ps qs. flat_map-append line_of ps qs) size parts.items ids each all))
    c.append_parts.ensures
