use Rattle.{std.proofs.Common.◌<◌, std.proofs.Common.◌∙◌, std.proofs.Common.arith, std.proofs.Common.ap, qconvex_c.specs.declared.buffers.Buffers.Buffers}
use Rattle.qconvex_c.{specs.steps.Buffers.AreSame, specs.contract.Sets.sets_in, proofs.SetHulls.fits_part, proofs.SetHulls.written_more}
use Rattle.qconvex_c.proofs.many.qconvex_hulls.Goals as goal

-- buffers that are the same through two calls
same_twice : (a b c : Buffers) → AreSame a b → AreSame b c → AreSame a c
same_twice a b c s t = record {
  extremes = t.extremes ∙ s.extremes;
  offsets = t.offsets ∙ s.offsets;
  corners = t.corners ∙ s.corners;
  extremes_len = t.extremes_len ∙ s.extremes_len;
  offsets_len = t.offsets_len ∙ s.offsets_len;
  corners_len = t.corners_len ∙ s.corners_len;
}

pub hull_of_set-requires-clause-parts : goal.hull_of_set-requires-clause-parts
hull_of_set-requires-clause-parts c =
    let room = c.have_room.ensures.0 c.if-not-have_room.false in
    let fits = fits_part _ _ _ _ _ _ (c.are_starts.ensures.0 c.if-not-are_starts.false) room c.loop-number.number (omega arith) in
    let end = ap (λ s. s.end) c.set_at-set.ensures in let number = ap (λ s. s.number) c.set_at-set.ensures in
    let same = c.loop-number.invariant.same in
    record {
      extremes = omega (arith, fits.extremes_fit, end, same.extremes_len);
      offsets = omega (arith, fits.offsets_fit, end, number, same.offsets_len);
      corners = omega (arith, fits.corners_fit, end, number, same.corners_len);
    }

pub loop-number-preserved : goal.loop-number-preserved
loop-number-preserved c =
    let below : c.loop-number.number < sets_in c.args.starts.now = omega arith in
    let room = (c.have_room.ensures.0 c.if-not-have_room.false).answers in let len = c.loop-number.auto.answers in
    let kept = c.loop-number.invariant in let now = c.hull_of_set.ensures in record {
      written = written_more _ _ _ (c.are_starts.ensures.0 c.if-not-are_starts.false) _ _ _ _ _ _ _ _ _ _ _ _ _ _ below (omega (arith, below, room, len))
          c.set_at-set.ensures kept.written now.answer now.extremes now.offsets now.corners;
      same = same_twice _ _ _ kept.same now.same;
    }
