-- `pam::write::write_pam` makes the header first, so that its length is known before anything is written. Assumes nothing.
use mathlib.Core.Path.{◌≡◌, ap, sym, ◌∙◌}
use mathlib.Core.List.{◌++◌}
use Prim.Native.Nat.{◌+◌}
use native.Mathlib.Omega.{arith}
use lib.ListN.{length, take}
use Rattle.rules.specs.Base.{over}
use Rattle.rules.specs.Pam.{pam_header, pam_write_call}
use Rattle.rdp.proofs.Refusals.{refused_call}
use Rattle.pam.proofs.Files.{Fits, fits, header-front, size_small, file_written}
use Rattle.pam.proofs.write.write_pam.Goals.{After-put_header-size, In_ok-check_write}
use Rattle.pam.proofs.write.write_pam.Goals as goal

-- nothing is refused
fit : (c : In_ok-check_write) → Fits c.args.width c.args.height c.args.picture.now c.args.file.now
fit c = fits _ _ _ _ (sym c.in_ok-check_write.ensures)

-- the front of the array is the header
front : (c : After-put_header-size) → take c.put_header-size.result c.put_header-size.new.out ≡ pam_header c.args.width c.args.height
front c = let e = c.put_header-size.ensures in header-front _ _ _ _ _ e.value e.out_after

pub returns-in_err-check_write : goal.returns-in_err-check_write
unfolding pam_write_call
returns-in_err-check_write c = refused_call _ _ _ _ _ _ _ c.from_residual.ensures.1 c.in_err-check_write.ensures

pub texel_bytes-count-requires : goal.texel_bytes-count-requires
texel_bytes-count-requires c =
    let s = (fit (goal.at.texel_bytes-count-requires c).In_ok-check_write).sides in
    record { wide = s.width; high = s.height }

pub put_file-end-requires : goal.put_file-end-requires
put_file-end-requires c =
    let f = fit (goal.at.put_file-end-requires c).In_ok-check_write in
    let h = front (goal.at.put_file-end-requires c).After-put_header-size in
    let e = c.texel_bytes-count.ensures in
    record {
      in_picture = omega (arith, e, f.texels);
      room = omega (arith, ap length h, e, f.room);
    }

pub overflow_cast-result : goal.overflow_cast-result
overflow_cast-result c =
    let f = fit (goal.at.overflow_cast-result c).In_ok-check_write in
    let h = front (goal.at.overflow_cast-result c).After-put_header-size in
    omega (arith, c.put_file-end.ensures.value, ap length h, c.texel_bytes-count.ensures, size_small c.args.width c.args.height f.sides)

pub returns : goal.returns
returns c =
    let picture = c.args.picture.now in
    let file = c.args.file.now in
    let h = front (goal.at.returns c).After-put_header-size in
    let e = c.texel_bytes-count.ensures in
    let size = c.put_file-end.ensures.value ∙ (λ i. length (h i) + e i) in
    let left = c.put_file-end.ensures.file_after ∙ (λ i. over (h i ++ take (e i) picture) file) in
    file_written _ _ picture file (sym c.in_ok-check_write.ensures) size left
