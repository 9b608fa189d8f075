-- The PAM files worked hold, every row of both tables: antt computes both sides.
use lib.Dec.{T}
use Rattle.rules.specs.Base.{any, all, same, concat, over}
use Rattle.rules.specs.Refusal.{first, settle, call}
use Rattle.rules.specs.Lister.{low_digits, reversed, decimal}
use Rattle.rules.specs.Pam.{text, lines, ended, pam_header, pam_file, pam_write_call, front, behind, cut, fields, lines_size}
use Rattle.rules.specs.Pam.{values, number_from, joined, header_of, pam_head, pam_read_call}
use Rattle.rules.specs.Worked.{all_same}
use Rattle.rules.specs.PamWorked.{read_table, write_table}

pub pam_reads : T (all_same read_table)
unfolding read_table any all same concat over first settle call low_digits reversed decimal text lines front behind cut fields
    lines_size values number_from joined header_of pam_head pam_read_call
pam_reads = tt

pub pam_writes : T (all_same write_table)
unfolding write_table all same concat over first settle call low_digits reversed decimal text ended pam_header pam_file pam_write_call
pam_writes = tt
