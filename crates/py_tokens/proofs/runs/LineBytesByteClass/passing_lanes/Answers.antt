-- Each lane passes where it is neither end of a line.
use Rattle.std.proofs.Common.{refl}
use Rattle.std.proofs.lemmas.Simd.{zip2_splat, zip2_of_maps}
use Rattle.py_tokens.specs.Bytes.{is_line_byte}
use Rattle.py_tokens.proofs.Lanes.{mask_is}
use Rattle.py_tokens.proofs.runs.LineBytesByteClass.passing_lanes.Goals as goal

pub returns : goal.returns
returns c =
    let v = c.args.block in
    let long = c.fits-block.0 in
    mask_is is_line_byte v long _ _ c.fits-block.1 (zip2_of_maps _ _ _ v (zip2_splat _ v 32 _ long) (zip2_splat _ v 32 _ long)) refl
