-- The steps of a replacement form a replacement, and their result is a surface.
use Rattle.qh_model.proofs.Common.{◌≡◌, ℕ, ◌/◌, ◌<◌, arith, ap, sym, ◌∙◌, refl, subst, false, inl, inr, List, length, ◌≢◌, ◌⊎◌, slice_index, reverse}
use Rattle.qh_model.proofs.Common.{length-append, cases_Bool, both_ways, false_from_ne_true, length-map, get_or-map, StoredFacet, facet_at, In}
use Rattle.qh_model.proofs.{Members.All-of, Members.In-get_or, lists.Joined.in_append, lists.Joined.once_left, surfaces.Stored.live_inside}
use Rattle.qh_mesh.specs.{contract.Edges.side_of_edge, contract.Edges.twin_of, declared.slots.End.TheVariants.Start, declared.slots.End.TheVariants.Finish}
use Rattle.qh_mesh.specs.contract.Replacement.{is_listed, horizon, IsLive, AreFacets, IsKept, IsReplacement, IsCone}
use Rattle.qh_mesh.specs.{declared.facets.FacetSide.FacetSide, declared.slots.End.End, steps.Kept.is_live, steps.Kept.outer_of, steps.Surfaces.IsSurface}
use Rattle.qh_mesh.specs.steps.{Cones.bare, Places.IsVacant, Twins.HasTwin}
use Rattle.qh_mesh.specs.steps.Horizons.{side_at, corner, other, edge_side, IsBalanced, IsMate}
use Rattle.qh_mesh.specs.steps.Rebuilt.{IsCleared, IsChosen, IsConed, IsPrepared, IsReady, IsRebuilt}
use Rattle.qh_mesh.proofs.{FallingVolumes.step_falls, ListedFacets.listed_in, ListedFacets.unlisted_at, Mates.has_mate, Mates.mate_only, Mates.mate_twice}
use Rattle.qh_mesh.proofs.HorizonSides.{edge, on_horizon, horizon_twin, same_place, horizon_balanced, gone, stays}
use Rattle.qh_mesh.proofs.{Pools.places_are, Rewiring.twins_after, Rewiring.IsStep, Rewiring.rewired, SoundMeshes.step_is_sound, SoundMeshes.step_is_closed}

module _ (old chosen : List StoredFacet) (free left vs : List ℕ) (hs : List FacetSide) (made : List ℕ)
    (s : IsSurface old free) (a : AreFacets old vs) (p : IsPrepared old chosen left vs hs made) where
  abbrev c : IsCleared old p.between vs hs
  c = p.is_cleared

  abbrev h : IsChosen p.between chosen hs made left
  h = p.is_chosen

  -- the length of the horizon
  horizon_len : length hs ≡ length (horizon old vs)
  horizon_len = ap length c.noted ∙ length-map (horizon old vs) (edge_side old)

  in_hs : (j : ℕ) → j < length made → j < length hs
  in_hs j l = let e = h.len in omega arith

  side_is : (j : ℕ) → j < length hs → side_at hs j ≡ edge_side old (edge old vs j)
  side_is = grind (arith, get_or-map, horizon_len)

  balanced : IsBalanced hs
  balanced = subst IsBalanced (sym c.noted) (horizon_balanced old vs s.twins a)

  -- the half-edge across it
  outer_is : (j : ℕ) → j < length hs → (side_at hs j).outer ≡ twin_of old (edge old vs j)
  outer_is j l = ap (λ (h : FacetSide). h.outer) (side_is j l)

  twin : (j : ℕ) → j < length hs → HasTwin old (edge old vs j) × IsKept old vs (twin_of old (edge old vs j) / 3)
  twin j l = let e = horizon_len in horizon_twin old vs s.twins a j (omega arith)

  -- and the half-edge across that
  outer_back : (j e : ℕ) → j < length hs → (side_at hs j).outer ≡ e → twin_of old e ≡ edge old vs j
  outer_back j e l d = ap (twin_of old) (sym d ∙ outer_is j l) ∙ (twin j l).0.back

  -- a place of the cone was free
  vacant : (f : ℕ) → In f made → IsVacant chosen f
  vacant f i = h.pool.vacant f (in_append made (reverse left) f (inl i))

  -- the precondition of the last steps
  pub is_ready : IsReady chosen hs made
  is_ready = record {
    places = let c = h.pool.count in let e = length-append made (reverse left) in omega arith;
    small = h.small;
    balanced = balanced;
    len = h.len;
    outers_in = λ j l. let i = live_inside old (twin_of old (edge old vs j) / 3) (twin j l).1.live in let n = p.longer in
        rw (outer_is j l) (omega arith);
    outers_apart = λ i j l m e.
        let n = horizon_len in
        let q = same_place old vs a i j (omega arith) (omega arith)
        (sym (outer_back i (side_at hs j).outer (omega arith) e) ∙ outer_back j (side_at hs j).outer m refl) in
        omega arith;
    made_in = All-of (λ f. f < length chosen) made (λ f i. (vacant f i).0);
    once = once_left made (reverse left) h.pool.once;
  }

  module _ (new : List StoredFacet) (apex : ℕ) (w : IsConed chosen new hs made apex) where
    -- a remaining facet has its corners, and its place is not one of the cone
    kept_at : (f : ℕ) → IsKept old vs f → facet_at chosen f ≡ facet_at old f
    kept_at f k = h.cells f ∙ stays old p.between vs c.removed f k.unlisted

    fresh : (f : ℕ) → IsKept old vs f → ¬ (In f made)
    fresh f k i = both_ways (facet_at old f).live (ap is_live (sym (kept_at f k)) ∙ (vacant f i).1) k.live

    unmade : (f : ℕ) → IsKept old vs f → (j : ℕ) → j < length made → slice_index made j ≢ f
    unmade f k j l e = fresh f k (subst (λ g. In g made) e (In-get_or made j 0 l))

    kept_same : (f : ℕ) → IsKept old vs f → facet_at new f ≡ facet_at w.joined_to f
    kept_same f k = w.written.others f (unmade f k)

    -- the twin of each of its sides whose neighbour remains is unchanged
    twins_stay : (e : ℕ) → IsKept old vs (e / 3) → is_listed vs (twin_of old e / 3) ≡ false → twin_of new e ≡ twin_of old e
    twins_stay e k u =
        ap (λ t. outer_of t (side_of_edge e)) (kept_same (e / 3) k)
        ∙ w.joined.others e (λ j l d. both_ways (is_listed vs (edge old vs j / 3))
        (ap (λ y. is_listed vs (y / 3)) (sym (outer_back j e l d)) ∙ u) (let e = horizon_len in (on_horizon old vs j (omega arith)).0))
        ∙ ap (λ t. outer_of t (side_of_edge e)) (kept_at (e / 3) k)

    -- the facets of the cone
    over : (j : ℕ) → j < length made → IsCone old new (edge old vs j) apex (slice_index made j)
    over j l =
        let m = in_hs j l in let t = (w.written.there j l).is in
        let o = twin_of old (edge old vs j) in let d = side_is j m in
        record {
          live = rw t;
          first = rw (t, d);
          second = rw (t, d);
          third = rw t;
          outward = rw (t, d);
          inward = ap (λ t. outer_of t (side_of_edge o)) (kept_same (o / 3) (twin j m).1)
              ∙ ap (twin_of w.joined_to) (sym (outer_is j m)) ∙ w.joined.outer j m;
        }

    -- the mates of a side of the horizon, and the facets next to that over it
    abbrev mate : End → ℕ → ℕ
    mate end j = (has_mate hs balanced end j).0

    is_mate : (end : End) (j : ℕ) → j < length made → IsMate hs end j (mate end j)
    is_mate end j l = (has_mate hs balanced end j).1 (in_hs j l)

    mate_in : (end : End) (j : ℕ) → j < length made → mate end j < length made
    mate_in end j l = let e = h.len in let m = (is_mate end j l).inside in omega arith

    mate_back : (end : End) (j : ℕ) → j < length made → mate (other end) (mate end j) ≡ j
    mate_back end j l = mate_twice hs balanced end j (in_hs j l)

    -- a place outside the cone is as the removal left it, except for twins
    elsewhere : (f : ℕ) → ((j : ℕ) → j < length made → slice_index made j ≢ f) → bare (facet_at new f) ≡ bare (facet_at p.between f)
    elsewhere f n = ap bare (w.written.others f n) ∙ w.joined.same f ∙ ap bare (h.cells f)

    kept_bare : (f : ℕ) → IsKept old vs f → bare (facet_at new f) ≡ bare (facet_at old f)
    kept_bare f k = elsewhere f (unmade f k) ∙ ap bare (stays old p.between vs c.removed f k.unlisted)

    -- a live facet remains from before, or belongs to the cone
    only : (f : ℕ) → IsLive new f → IsKept old vs f ⊎ In f made
    only f l = elim (cases_Bool (is_listed made f)) [
      | inl e ↦ inr (listed_in made f e)
      | inr u ↦ (let d = ap is_live (sym (elsewhere f (unlisted_at made f u))) ∙ l in
          let u' = false_from_ne_true (is_listed vs f)
          (λ e. both_ways (facet_at p.between f).live (ap is_live (gone old p.between vs c.removed f e)) d) in
          inl (record { live = ap is_live (sym (stays old p.between vs c.removed f u')) ∙ d; unlisted = u' }))
    ]

    -- so the result is a replacement
    replacement : IsReplacement old new vs apex made
    replacement = record {
      len = h.len ∙ horizon_len;
      once = once_left made (reverse left) h.pool.once;
      fresh = fresh;
      cone = over;
      next = mate Finish;
      next_in = mate_in Finish;
      next_starts = λ j l. let n = is_mate Finish j l in
          ap (corner Start) (sym (side_is (mate Finish j) n.inside)) ∙ n.meets ∙ ap (corner Finish) (side_is j (in_hs j l));
      next_twin = λ j l. let t = w.written.there j l in
          rw (t.is, mate_only hs Finish j t.next (mate Finish j) t.next_is (is_mate Finish j l));
      next_back = λ j l. let i = mate Finish j in let m = mate_in Finish j l in let t = w.written.there i m in
          rw (t.is, mate_only hs Start i t.before (mate Start i) t.before_is (is_mate Start i m), mate_back Finish j l);
      kept = λ f k. let b = kept_bare f k in record {
        live = ap is_live b ∙ k.live;
        i_is = ap (λ (t : StoredFacet). t.i) b;
        j_is = ap (λ (t : StoredFacet). t.j) b;
        k_is = ap (λ (t : StoredFacet). t.k) b;
        twins = λ e q u. twins_stay e (subst (IsKept old vs) (sym q) k) u;
      };
      only = only;
    }

    -- the result is a surface, with no more places than it needs
    pub rebuilt : IsRebuilt old new left vs apex made
    unfolding replacement
    rebuilt = let len = w.written.len ∙ w.joined.len in
        let step : IsStep old new vs apex made = record { twins = s.twins; facets = a; replaced = replacement } in record {
          surface = record {
            twins = twins_after old new vs apex made step (λ j l. (mate Start j, mate_in Start j l, mate_back Start j l));
            pool = w.pool (reverse left) h.pool;
            small = rw len h.small;
          };
          replaced = replacement;
          places = places_are new left (length old) (w.pool (reverse left) h.pool) (let l = p.longer in rw len l) (λ l. len ∙ p.again l);
          rewired = rewired old new vs apex made step;
          sound = step_is_sound old new vs apex made step;
          closed = step_is_closed old new vs apex made step;
          falls = λ at s t u v z visible. step_falls old new vs apex made step at visible s t u v z;
        }
