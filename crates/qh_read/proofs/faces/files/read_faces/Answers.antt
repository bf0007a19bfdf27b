-- A file that is a list of faces.
use Rattle.qh_read.proofs.faces.files.read_faces.Goals as goal
use Rattle.std.proofs.Common.{IfErr, IfOk, Ok, Err}
use Rattle.qh_read.specs.{contract.FaceFiles.IsFaultOfFaces, contract.FaceFiles.ReadsFaces, steps.Lists.AreWholeFaces, steps.Lists.IsWholeFault}
use Rattle.qh_read.proofs.FileLaws.{whole-fault, whole-read}

pub returns-in-Counted-clause-read : goal.returns-in-Counted-clause-read
returns-in-Counted-clause-read c =
    let reading = c.args.reading in let bytes = c.args.bytes.now in
    elim c.read_whole_faces.result as (λ r. IfOk r (λ f. AreWholeFaces reading bytes f.vertices.items f.polygons.items)
    → IfOk r (λ f. ReadsFaces reading bytes f.vertices.items f.polygons.items)) [
      | Ok f ↦ λ h. whole-read reading bytes f.vertices.items f.polygons.items c.in-Counted.is h
      | Err e ↦ λ h. tt
    ] c.read_whole_faces.ensures.read

pub returns-in-Counted-clause-fault : goal.returns-in-Counted-clause-fault
returns-in-Counted-clause-fault c =
    let layout = c.args.reading.layout in let bytes = c.args.bytes.now in
    elim c.read_whole_faces.result as (λ r. IfErr r (IsWholeFault layout bytes) → IfErr r (IsFaultOfFaces layout bytes)) [
      | Ok f ↦ λ h. tt
      | Err e ↦ λ h. whole-fault layout bytes e c.in-Counted.is h
    ] c.read_whole_faces.ensures.fault
