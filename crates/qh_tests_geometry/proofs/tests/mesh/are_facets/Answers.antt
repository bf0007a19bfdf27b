-- One more facet is live, and differs from those before it.
use Rattle.qh_model.proofs.Common.{◌≡◌, ◌+◌, ◌<◌, arith, rules, slice_index, take, get_or_read, take_more, All-push, All-weaker}
use Rattle.qh_model.proofs.Members.{All-In}
use Rattle.qh_mesh.specs.contract.Replacement.{IsLive}
use Rattle.qh_mesh.proofs.ListedFacets.{once_push}
use Rattle.qh_tests_geometry.proofs.tests.mesh.are_facets.Goals as goal

pub loop-f-preserved : goal.loop-f-preserved
loop-f-preserved c =
    let fs = c.args.mesh.now in let vs = c.args.list.now in let k = c.loop-f.f-index in let n = c.loop-f.next in let v = slice_index vs k in
    let is : c.f-item.result ≡ v = get_or_read vs k c.f-item.result c.loop-f-test.true c.f-item.is 0 in
    let below = c.loop-f.invariant.below in let old = c.loop-f.invariant.facets in
    let first = c.index.ensures in let last = c.index-next.ensures in let least = c.if-index-next.false in
    let live : IsLive fs c.f-item.result = search rules in
    rw (take_more vs k 0 c.loop-f-test.true) (record {
      facets = record {
        live = All-push (IsLive fs) (take k vs) v old.live (rw is at live);
        once = once_push (take k vs) v old.once (λ i. let b : v < n = All-In (λ f. f < n) (take k vs) v below i in omega arith);
      };
      below = All-push (λ f. f < c.index-next.result + 1) (take k vs) v
          (All-weaker (λ f. f < n) (λ f. f < c.index-next.result + 1) (λ f h. omega arith) (take k vs) below) (omega arith);
    })
