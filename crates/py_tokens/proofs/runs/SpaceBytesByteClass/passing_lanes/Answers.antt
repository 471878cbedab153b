-- Each lane passes where it is one of the three.
use Rattle.std.proofs.Common.{refl}
use Rattle.std.proofs.lemmas.Simd.{zip2_splat, zip2_of_maps}
use Rattle.py_tokens.specs.Bytes.{is_space_byte}
use Rattle.py_tokens.proofs.Lanes.{mask_is}
use Rattle.py_tokens.proofs.runs.SpaceBytesByteClass.passing_lanes.Goals as goal

pub returns : goal.returns
returns c =
    let v = c.args.block in
    let long = c.fits-block.0 in
    let either = zip2_of_maps _ _ _ v (zip2_splat _ v 32 _ long) (zip2_splat _ v 32 _ long) in
    mask_is is_space_byte v long _ _ c.fits-block.1 (zip2_of_maps _ _ _ v either (zip2_splat _ v 32 _ long)) refl
