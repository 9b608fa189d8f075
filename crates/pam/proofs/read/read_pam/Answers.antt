-- `pam::read::read_pam` answers what its header states, and copies the texels. Assumes nothing.
use mathlib.Core.Path.{◌≡◌, ap, sym, ◌∙◌}
use Prim.Native.Nat.{◌≤◌}
use native.Mathlib.Omega.{arith}
use lib.ListN.{length, take, drop}
use Rattle.std.specs.Prelude.{Some}
use Rattle.rules.specs.Base.{over}
use Rattle.rules.specs.Refusal.{first}
use Rattle.rules.specs.Pam.{texel_bytes, pam_head, pam_read_tests, pam_read_call}
use Rattle.rdp.proofs.Refusals.{refused_call}
use Rattle.pam.specs.Gather.{header_by}
use Rattle.pam.specs.Tests.{read_tests}
use Rattle.pam.proofs.Ones.{of_none}
use Rattle.pam.proofs.Seen.{broken_none, whole_some}
use Rattle.pam.proofs.Tested.{Taken, taken, tested_whole, broken_first, picture_read}
use Rattle.pam.proofs.read.read_pam.Goals.{In_ok-header, In_ok-check_read}
use Rattle.pam.proofs.read.read_pam.Goals as goal

pub returns-in_err-header : goal.returns-in_err-header
unfolding pam_read_call
returns-in_err-header c =
    let file = c.args.file.now in
    let none = c.in_err-header.ensures.ok_part in
    let broken = broken_none file (sym c.read_header.ensures.value ∙ none) in
    let is_13 = of_none _ _ _ none c.in_err-header.ensures.value in
    refused_call _ _ _ _ _ _ _ c.from_residual.ensures.1 (is_13 ∙ broken_first file c.args.picture.now (pam_head file) broken)

-- the header says what the file's does
header : (c : In_ok-header) → header_by c.args.file.now ≡ Some c.in_ok-header.header
header c = sym c.read_header.ensures.value ∙ c.in_ok-header.ensures.ok_part

-- what is tested_whole is the rule's
tests : (c : In_ok-header) → first (read_tests c.in_ok-header.header (length c.args.file.now) (length c.args.picture.now))
    ≡ first (pam_read_tests (pam_head c.args.file.now) c.args.file.now c.args.picture.now)
tests c =
    let file = c.args.file.now in
    let x = c.in_ok-header.header in
    let s = whole_some file x (header c) in
    let l : x.size ≤ length file = rw c.in_ok-header.ensures.ok_part at c.read_header.ensures.within in
    tested_whole file c.args.picture.now x (pam_head file) s.0 s.1 l

-- nothing is refused
passed : (c : In_ok-check_read) → first (pam_read_tests (pam_head c.args.file.now) c.args.file.now c.args.picture.now) ≡ 0
passed c = sym (c.in_ok-check_read.ensures ∙ tests (goal.at.In_ok-check_read c).In_ok-header)

took : (c : In_ok-check_read) → Taken c.in_ok-header.header (pam_head c.args.file.now) c.args.file.now c.args.picture.now
took c = taken _ _ _ _ (whole_some c.args.file.now _ (header (goal.at.In_ok-check_read c).In_ok-header)).1 (passed c)

pub returns-in_err-check_read : goal.returns-in_err-check_read
unfolding pam_read_call
returns-in_err-check_read c =
    refused_call _ _ _ _ _ _ _ c.from_residual-in_err-check_read.ensures.1
    (c.in_err-check_read.ensures ∙ tests (goal.at.returns-in_err-check_read c).In_ok-header)

pub texel_bytes-count-requires : goal.texel_bytes-count-requires
texel_bytes-count-requires c =
    let t = took (goal.at.texel_bytes-count-requires c).In_ok-check_read in
    record { wide = t.within.width; high = t.within.height }

pub copy_texels-requires : goal.copy_texels-requires
copy_texels-requires c =
    let t = took (goal.at.copy_texels-requires c).In_ok-check_read in
    record {
      in_file = omega (arith, c.texel_bytes-count.ensures, t.texels);
      in_picture = omega (arith, c.texel_bytes-count.ensures, t.room);
    }

pub returns : goal.returns
returns c =
    let file = c.args.file.now in
    let old = c.args.picture.now in
    let t = took (goal.at.returns c).In_ok-check_read in
    let count = c.texel_bytes-count.ensures ∙ (λ i. texel_bytes (t.width i) (t.height i)) in
    let size = c.in_ok-header.header.size in
    let left = c.copy_texels.ensures ∙ ap (λ n. over (take n (drop size file)) old) count in
    let all = texel_bytes (pam_head file).width (pam_head file).height in
    picture_read file old (passed (goal.at.returns c).In_ok-check_read) t.width t.height (left ∙ ap (λ n. over (take all
    (drop n file)) old) t.size)
