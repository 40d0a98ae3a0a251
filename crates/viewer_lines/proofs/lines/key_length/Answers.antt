-- `viewer_lines::lines::key_length` meets its promise: its four numbers, two characters before and four after them. Assumes nothing.
use Rattle.std.proofs.Common.{ap, arith, length}
use Rattle.viewer_lines.specs.ViewerLines.{face_text}
use Rattle.viewer_lines.specs.Lines.{corners-long, face-most}
use Rattle.viewer_lines.specs.declared.corners.Corners.{Corners}
use Rattle.viewer_lines.proofs.lines.key_length.Goals as goal

pub returns : goal.returns
returns c =
    let q = c.unpack-q.result in
    let long = corners-long c.args.s q in
    let most = face-most c.args.s q c.requires c.unpack-q.ensures.1 in
    let is = ap (λ (x : Corners). length (face_text c.args.s x)) c.unpack-q.ensures.0 in
    let a = c.width-a.ensures.value in
    let b = c.width-b.ensures.value in
    let e = c.width-c.ensures.value in
    let d = c.width-d.ensures.value in
    (omega (arith, long, is, a, b, d, e), omega (arith, long, most, a, b, d, e))
