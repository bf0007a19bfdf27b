-- The bytes read from the source are the content of the files that the words name.
use Rattle.qh_model.proofs.Common.{◌≡◌, Some, IfSome, map, IfOk-weaker, string_bytes}
use Rattle.std.proofs.lemmas.Result.{IfErr-weaker}
use Rattle.hullcheck.specs.contract.{CommandLine.Asked, CommandLine.asked_in, Judging.IsWhole}
use Rattle.hullcheck.proofs.KnownFiles.{all_of, judge_fault}
use Rattle.hullcheck.proofs.program.judge_words.Goals as goal

pub returns-clause-told : goal.returns-clause-told
returns-clause-told g c =
    let asked : Asked = asked_in c.in_ok-settings.settings in
    let points : IfSome (g.F.Files.contents c.args.files.now asked.points) (λ known. g.F.File.Source.remaining c.in_ok-points.points ≡ Some known) =
    rw c.unwrap-name.ensures (rw c.text_of.ensures.same at c.in_ok-points.ensures.bytes) in
    let faces : IsWhole (g.F.Files.contents c.args.files.now asked.faces) c.in_ok-text.text.items = c.in_ok-text.ensures.bytes in
    IfOk-weaker c.check_streams-judged.result _ _
    (λ j gives. let known = all_of _ _ _ points gives in (
      asked,
      c.in_ok-settings.ensures.asked,
      record {
        point_bytes = known.0;
        face_bytes = c.in_ok-text.text.items;
        points_are = known.1;
        faces_are = faces;
        told = known.2;
      },
    ))
    (rw c.deref.ensures.value at c.check_streams-judged.ensures.told)

pub returns-clause-fault : goal.returns-clause-fault
returns-clause-fault g c =
    let asked : Asked = asked_in c.in_ok-settings.settings in
    let points : IfSome (g.F.Files.contents c.args.files.now asked.points) (λ known. g.F.File.Source.remaining c.in_ok-points.points ≡ Some known) =
    rw c.unwrap-name.ensures (rw c.text_of.ensures.same at c.in_ok-points.ensures.bytes) in
    let faces : IsWhole (g.F.Files.contents c.args.files.now asked.faces) c.in_ok-text.text.items = c.in_ok-text.ensures.bytes in
    IfErr-weaker c.check_streams-judged.result _ _
    (λ f is. judge_fault (map string_bytes c.args.words.now) (g.F.Files.contents c.args.files.now) asked _ _ _ _ _ f
    c.in_ok-settings.ensures.asked points faces
    (λ rose. rw c.unwrap-name.ensures (c.close.ensures.failed (rw c.in_ok-points.ensures.begins at rose))) is)
    (rw c.deref.ensures.value at c.check_streams-judged.ensures.fault)
