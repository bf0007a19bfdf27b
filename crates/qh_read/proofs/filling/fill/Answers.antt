use Rattle.std.proofs.Common.{◌≡◌, ◌+◌, ◌++◌, ◌∙◌, ℕ, List, refl, arith, ap, sym, subst, length, length-append, length-take, length-drop, take, drop}
use Rattle.{std.proofs.Math.Seq.take-add, std.specs.Io.KnownBytes.Consumes, qh_read.proofs.SourceLemmas.Consumes-append}
use Rattle.qh_read.proofs.filling.fill.Goals as goal

-- the bytes read before, and one piece
pub returns-then-taken-before-clause-stops : goal.returns-then-taken-before-clause-stops
returns-then-taken-before-clause-stops g c =
    let at = c.loop-count.count in let was : List ℕ = take at c.loop-count.bytes in let new : List ℕ = c.read_at.new.bytes in
    let piece : List ℕ = take c.in_ok-taken.taken (drop at new) in let inv = c.loop-count.invariant in
    let before : length was ≡ at = omega (arith, length-take at c.loop-count.bytes, inv.within) in
    let more : length piece ≡ c.in_ok-taken.taken =
    omega (arith, length-take c.in_ok-taken.taken (drop at new), length-drop at new, c.in_ok-taken.ensures.within) in
    record {
      big = λ e. (
        was ++ piece,
        Consumes-append _ _ _ was piece inv.given c.in_ok-taken.ensures.bytes,
        (
          omega (arith, length-append was piece, before, more, c.if-taken-before.true, inv.fits),
          omega (arith, length-append was piece, before, more, c.in_ok-taken.ensures.bound, inv.fits),
        ),
      );
      big_first = λ e. cc;
      device = λ e. cc;
      no_device = λ e. c.in_ok-taken.ensures.kept ∙ inv.steady;
      no_text = λ t. t.2 refl;
    }

-- one more piece
pub loop-count-preserved : goal.loop-count-preserved
loop-count-preserved g c =
    let at = c.loop-count.count in let n = c.in_ok-taken.taken in let new : List ℕ = c.read_at.new.bytes in
    let inv = c.loop-count.invariant in
    let both : take at c.loop-count.bytes ++ take n (drop at new) ≡ take (at + n) new =
    ap (λ (u : List ℕ). u ++ take n (drop at new)) (sym c.in_ok-taken.ensures.before) ∙ sym (take-add at n new) in
    record {
      given = subst (Consumes _ _) both
          (Consumes-append _ _ _ (take at c.loop-count.bytes) (take n (drop at new)) inv.given c.in_ok-taken.ensures.bytes);
      steady = c.in_ok-taken.ensures.kept ∙ inv.steady;
      len = c.in_ok-taken.ensures.len ∙ inv.len;
      fits = omega (arith, c.if-taken-before.false, inv.fits);
      within = c.in_ok-taken.ensures.within;
    }
