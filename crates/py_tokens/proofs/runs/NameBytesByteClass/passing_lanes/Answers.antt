-- Each lane passes where it is a letter, a digit or `_`.
use Rattle.std.proofs.Common.{leb, cond, refl}
use Rattle.std.proofs.lemmas.Simd.{zip2_splat, zip2_splat_left, splat_is_map, zip2_of_maps}
use Rattle.py_tokens.specs.Bytes.{is_name_byte}
use Rattle.py_tokens.proofs.Lanes.{mask_is}
use Rattle.py_tokens.proofs.runs.NameBytesByteClass.passing_lanes.Goals as goal

pub returns : goal.returns
returns c =
    let v = c.args.block in
    let long = c.fits-block.0 in
    mask_is is_name_byte v long _ _ c.fits-block.1
    (zip2_of_maps _ _ _ v
    (zip2_of_maps _ _ _ v
    (zip2_of_maps _ _ _ v
    (zip2_of_maps (λ a b. cond (leb a b) 255 0) _ _ v (splat_is_map v 32 _ long) (zip2_splat _ v 32 _ long))
    (zip2_of_maps (λ a b. cond (leb a b) 255 0) _ _ v (zip2_splat _ v 32 _ long) (splat_is_map v 32 _ long)))
    (zip2_of_maps _ _ _ v
    (zip2_splat_left (λ a b. cond (leb a b) 255 0) _ 32 v long)
    (zip2_splat _ v 32 _ long)))
    (zip2_splat _ v 32 _ long))
    refl
