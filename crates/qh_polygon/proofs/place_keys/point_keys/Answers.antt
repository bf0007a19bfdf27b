use Rattle.qh_model.proofs.{Common.All-more, Common.IsPlace, Common.ap, Common.arith, Common.subst, Common.◌∙◌, lists.Images.map-more}
use Rattle.qh_polygon.specs.contract.{PlaceKeys.HasKey, PlaceKeys.key_at, PlaceNumbers.place_key}
use Rattle.qh_polygon.proofs.place_keys.point_keys.Goals as goal

pub loop-id-preserved : goal.loop-id-preserved
loop-id-preserved c = record {
  value = c.in_ok-push.ensures.items
      ∙ map-more (key_at c.args.pts.now) c.args.ids.now c.loop-id.id-index c.id-item.result _ _ (omega arith) c.loop-id.invariant.value
      (c.place_key.ensures.value ∙ ap (λ p. place_key p c.id-item.result) c.point_at.ensures ∙ ap (key_at c.args.pts.now) c.id-item.is);
  known = All-more (HasKey c.args.pts.now) c.args.ids.now c.loop-id.id-index c.id-item.result (omega arith) c.loop-id.invariant.known
      (subst (HasKey c.args.pts.now) c.id-item.is
      (record {
        place_in = subst IsPlace c.point_at.ensures c.place_key.ensures.place;
        small = c.place_key.ensures.small;
      }));
}
