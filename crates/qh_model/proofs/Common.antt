-- The names that most proofs cite, passed on from one place. Declares nothing.
pub use Rattle.qh_model.specs.contract.BoardMachine.{Can, CanRun, Event, InSpan, Machine, Mark, Place, after, arrive_first, arrive_second, claim_got}
pub use Rattle.qh_model.specs.contract.BoardMachine.{claim_over, gave_up, give_up, held, leave, none, parent, parked, publish, published, put, run, settled}
pub use Rattle.qh_model.specs.contract.{BoardMachine.sibling, BoardMachine.sum_to, BoardMachine.untouched, BoardMachine.used, Bodies.IsBodyInOrder}
pub use Rattle.qh_model.specs.contract.ClosedPolygons.{AreClosed, AreClosedFaces, IsFace, step_count, steps_along, steps_round}
pub use Rattle.qh_model.specs.contract.ClosedSurface.{IsClosed, IsClosedSurface, Triple, edges, is_edge, signed_volume, triples_from, triples_of}
pub use Rattle.qh_model.specs.contract.{Cut.IsCut, Cut.IsEvenCut, Cut.block_count, Cut.blocks_of, Cut.bound, Cut.positions, FaceTriangles.face_triangles}
pub use Rattle.qh_model.specs.contract.{FinishedSurface.IsFinished, FinishedSurface.middle_at, FinishedSurface.weighted_at, Halves.halves, Halves.high_of}
pub use Rattle.qh_model.specs.contract.{Halves.low_of, Halves.packed, IdSets.AreIndices, IdSets.HasDistinctPoints, IdSets.IsIdSet, Places.IsPlace}
pub use Rattle.qh_model.specs.contract.{Rewired.IsHorizonSide, Rewired.IsRewired, RightValue.RightValue, Simplex.by_side, Simplex.one_of}
pub use Rattle.qh_model.specs.contract.SoundSurface.{HasDistinctFacets, IsInner, IsSound, IsStrict, perturbed, towards}
pub use Rattle.qh_model.specs.contract.StoredSurface.{StoredFacet, facet_at, live_from, named_facet, no_facet, surface_of}
pub use Rattle.qh_model.specs.contract.Surface.{HasTwin, IsBlindTo, IsCorner, IsWhole, Sees, Side, Surface, end, rest, rise, Side.first, Side.second}
pub use Rattle.qh_model.specs.contract.{Surface.Side.third, Weighted.Weighted, Weighted.middle_of, Weighted.plane_of, Weighted.weighted, Weighted.weighted_dot}
pub use Rattle.qh_model.specs.declared.{keys.packed.TheConstants.HALF_ROOM, limits.TheConstants.BLOCK_LIMIT, limits.TheConstants.BYTE_LIMIT}
pub use Rattle.qh_model.specs.declared.{limits.TheConstants.POINT_LIMIT, out.Out.Out, out.Out.TheVariants.Fx, out.Out.TheVariants.OffTriangles}
pub use Rattle.qh_model.specs.declared.{out.Out.TheVariants.Rank, out.Out.TheVariants.Summary, read_fault.ReadFault.ReadFault}
pub use Rattle.qh_model.specs.declared.read_fault.ReadFault.TheVariants.{Big, Count, NotOff, NotThree, Range}
pub use Rattle.qh_model.specs.headline.{Combination.Combination, Combination.IsBalanced, Dimension.HasSegment, Dimension.HasTetrahedron, Dimension.HasTriangle}
pub use Rattle.qh_model.specs.headline.{Dimension.IsDimension, DistinctIds.AreDistinctIds, DistinctIds.IsDistinctId, Extreme.Extreme, Extreme.Others}
pub use Rattle.qh_model.specs.headline.{Fan.edge_count, Fan.fan, Fan.fans, Fan.pairs_along, Fan.pairs_round, Fan.triangles_along, FileFault.counted_fault}
pub use Rattle.qh_model.specs.headline.{FileFault.first_fault, FileFault.is_three, FileFault.next_number_fault, Forms.IsFirstFault, Forms.ReadsIn}
pub use Rattle.qh_model.specs.headline.{Forms.first_fault_in, Hull.AreExtremes, Hull.BodyValue, Hull.HullValue, Hull.IsBody, Hull.IsHull, Limits.IsCoordinate}
pub use Rattle.qh_model.specs.headline.{Limits.is_coordinate, Numbers.number_of, Numbers.read_digits, OffFile.ReadsOff, OffFile.before_hash, OffFile.off_words}
pub use Rattle.qh_model.specs.headline.{PointFile.Reads, PointFile.coordinates, Polygon.Follows, Polygon.FollowsAlong, Polygon.IsPolygon, Polygon.TurnsLeft}
pub use Rattle.qh_model.specs.headline.Polygons.{AreFaces, ArePolygons, ComesBefore, IsEdge, IsEdgeCount, IsFacePolygon, IsFlatFace, IsSegmentFace}
pub use Rattle.qh_model.specs.headline.{Polygons.PointsForward, Polygons.RiseStrictly, Polygons.RisesFrom, Predicates.AreInLine, Sets.BeginsWithLeast, Sets.In}
pub use Rattle.qh_model.specs.headline.{Sets.Members, Sets.Once, SupportingPlane.IsSupportingTriple, SupportingPlane.OnPlane, SupportingPlane.Supports}
pub use Rattle.qh_model.specs.headline.Text.{IsText, face_text, hull_text, line, off_text, output_text, spaced, vertex_number, vertex_text}
pub use Rattle.qh_model.specs.headline.Vector.{Vector, cross_product, dot, minus, origin}
pub use Rattle.qh_model.specs.headline.Words.{Word, data_words, is_blank, is_data, is_word, lines_of, on_line, words_from, words_of}
pub use Rattle.qh_model.specs.laws.{ClosedFaceLaws.AreSupporting, ClosedSurfaceLaws.IsCornerOf, CompletenessLaws.CornerInPlane, CompletenessLaws.IsLiveCorner}
pub use Rattle.qh_model.specs.laws.{FaceLaws.IsAlong, FaceLaws.SpannedByExtremes, FacetPlanes.IsLevelFacet, FacetPlanes.IsLevelWith, Horizons.IsConeUnseen}
pub use Rattle.qh_model.specs.laws.{Horizons.IsWalked, HullLaws.HasExtremes, RoundTrip.CanBeRead, Separator.Separator, SimplexSurface.IsSimplexBoundary}
pub use Rattle.qh_model.specs.{laws.SimplexSurface.simplex_surface, laws.UnseenPoints.IsUnseen, steps.Endings.ended, steps.FarCorners.far}
pub use Rattle.std.proofs.Common.{Global, IsPermutation, add-one, ap, append_assoc, ap₂, arith, below_more, drop-cons, eq-eqb, eqb-true, get_or-set_other}
pub use Rattle.std.proofs.Common.{get_or-set_same, inl, inr, length-append, length-set, lit<, ne_eqb, rules, set, subst, sym, take_all, zero-add, ⊎_elim, ◌∙◌}
pub use Rattle.std.proofs.Math.{IntN.*ℤ-zero, Nat.mul-le-mul, Nat.mul-le-mul_left, Nat.mul-le-mul_right, Nat.ne_of_lt}
pub use Rattle.std.proofs.Math.Seq.{get_or-append_right, get_or-append_seam, take-add}
pub use Rattle.std.proofs.lemmas.Bool.{and_from, and_parts, both_ways, cases_Bool, cases_eq, cases_lt, cases_order, eqb-false, false_from_ne_true, le-leb}
pub use Rattle.std.proofs.lemmas.{Bool.leb-true, Bool.not-true, Bool.Decides.Decides-int_eq, Bool.Decides.nat_tests, Grind.common_steps, Grind.flat_map-append}
pub use Rattle.std.proofs.lemmas.{Grind.get_or_default_zero, Int.by_lt_z, Int.fits_signed_from_abs, Int.ints, Int.to_z-of_z, Int.unsigned_abs-mul}
pub use Rattle.std.proofs.lemmas.List.{append-nil, drop-drop, drop_all, drop_more, get_or-drop, get_or-map, get_or-take, get_or_append_left, get_or_default}
pub use Rattle.std.proofs.lemmas.List.{get_or_past, get_or_push, get_or_read, length-drop, length-map, length-replicate, length-take, length-take-le}
pub use Rattle.std.proofs.lemmas.List.{length_push, map-append, nil_from_length, reverse-append, take-append-drop, take_more}
pub use Rattle.std.proofs.lemmas.List.Elements.{All-append, All-from_get_or, All-from_recursion, All-head, All-more, All-nil, All-push, All-tail, All-weaker}
pub use Rattle.std.proofs.lemmas.List.{Filters.dedup_is, FromFn.get_or-range_with_len, FromFn.length-range_with_len, Sorted.All-permutation}
pub use Rattle.std.proofs.lemmas.List.Sorted.{Contains-permutation, IsNonDecreasingBy-from_sort, IsPermutation-append_left, IsPermutation-append_right}
pub use Rattle.std.proofs.lemmas.List.Sorted.{IsPermutation-map, IsPermutation-refl, IsPermutation-sym, IsPermutation-trans, sum_by-IsPermutation}
pub use Rattle.std.proofs.lemmas.{List.Sums.sum_by-append, List.Sums.sum_by-cons, List.Sums.sum_by-set, Map.Keys.IsDistinct-IsPermutation}
pub use Rattle.std.proofs.lemmas.{Map.Keys.IsStrictlyIncreasing-dedup, Nat.div-add-mod', Nat.mod-mul-add, Option.IfSome_then, Result.IfOk-weaker}
pub use Rattle.std.specs.{Char.is_ascii_digit, Cmp.Lexicographic.pointwise, Cmp.Lexicographic.same_text, Fork.IsChunk, Io.KnownBytes.Appends}
pub use Rattle.std.specs.{Io.KnownBytes.Consumes, Io.KnownBytes.IsAtEnd, Io.KnownBytes.Keeps, List.All, List.AllByRecursion, List.Contains, List.flat_map}
pub use Rattle.std.specs.List.{list_all, list_any, range_with_len, slice_range, slice_split, sum_by, Sorted.IsNonDecreasing, Sorted.IsStrictlyIncreasing}
pub use Rattle.std.specs.{Option.option_and_then, Option.option_copied, Option.option_map, Option.option_or, Ordering.int_eq, Ordering.is_gt, Ordering.is_lt}
pub use Rattle.std.specs.{Ordering.nat_cmp, Prelude.Bool, Prelude.Err, Prelude.FitsSigned, Prelude.IfErr, Prelude.IfOk, Prelude.IfSome}
pub use Rattle.std.specs.Prelude.{IsSome, IsTrue, List, MatchOption, MatchResult, None, Ok, Option, Result, Some, Vec, [], codes, cond, count_by, decimal, drop}
pub use Rattle.std.specs.Prelude.{eqb, false, filter, get_or, if◌then◌else◌, int_lt, length, map, max, min, nat_eq, nat_le, nat_lt, neg_ℤ, negsuc, not, pos}
pub use Rattle.std.specs.Prelude.{refl, replicate, reverse, slice_index, slice_index_or, slice_set, string_bytes, suc, take, true, unsigned_abs, vec_capacity}
pub use Rattle.std.specs.Prelude.{vec_len, zero, ℕ, ℤ, ◌%◌, ◌&&◌, ◌*ℤ◌, ◌*◌, ◌++◌, ◌+ℤ◌, ◌+◌, ◌-ℤ◌, ◌-◌, ◌/◌, ◌<ℤ◌, ◌<◌, ◌==◌, ◌^◌, ◌||◌, ◌↔◌, ◌∷◌, ◌≡◌, ◌≢◌}
pub use Rattle.std.specs.{Prelude.◌≤ℤ◌, Prelude.◌≤◌, Prelude.◌⊎◌, Str.bytes_eq, Vec.Iter.into_iter_items}
pub use lib.{IntN.+ℤ_assoc, IntN.+ℤ_idr, IntN.ℤ_discrete, ListN.get_elem?, Signed.lt_z, Signed.mag}
pub use mathlib.Core.{Logic.dite, Option.some, Option.some-injective, Option.some-ne-none}
pub use mir.{Syntax.Width, Syntax.w128, Syntax.w16, Syntax.w32, Syntax.w64, Val.SFits, Val.hbits, Val.of_z, Val.to_z}
pub use native.Mathlib.Decide.{dec_le, ℕ_discrete}
unfoldable pub use Rattle.qh_model.specs.contract.Weighted.{above}
unfoldable pub use Rattle.qh_model.specs.headline.Predicates.{cross, place, vol}
unfoldable pub use Rattle.std.specs.List.{IsDistinct}
