-- Segments of a text, one of which is replaced by one without points.
use Rattle.std.proofs.Common.{◌≡◌, ◌<◌, ℕ, List, length, set, get_or, sym, subst}
use Rattle.std.proofs.lemmas.List.{get_or-set_same, get_or-set_other, length-set}
use native.Mathlib.Decide.{ℕ_discrete}
use Rattle.qh_read.specs.declared.segment.Segment.{Segment}
use Rattle.qh_read.specs.steps.Segments.{IsSegment, AreSegments, segment_text, segment_size}

pub segments_set : (segments : List Segment) (text : List ℕ) (k : ℕ) (s : Segment) → AreSegments segments text
    → ((t : List ℕ) → IsSegment s t) → AreSegments (set segments k s) text
segments_set segments text k s p any i d l = by_decision (ℕ_discrete i k)
  where
    own : List ℕ
    own = segment_text (segment_size (length text) (length (set segments k s))) text i

    within : i < length segments
    within = subst (λ n. i < n) (length-set segments k s) l

    by_decision : Dec (i ≡ k) → IsSegment (get_or (set segments k s) i d) own
    by_decision (yes e) = subst (λ n. IsSegment (get_or (set segments k s) n d) own) (sym e)
        (subst (λ v. IsSegment v own) (sym (get_or-set_same segments k s d (subst (λ n. n < length segments) e within))) (any own))
    by_decision (no ne) = subst (λ v. IsSegment v own) (sym (get_or-set_other segments k i s d ne))
        (subst (λ n. IsSegment (get_or segments i d) (segment_text (segment_size (length text) n) text i)) (sym (length-set segments k s)) (p i d within))
