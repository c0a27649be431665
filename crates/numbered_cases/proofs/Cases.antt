-- The numbered cases of docs/SPECIFICATION.md, 'Cases', hold: one test that antt computes.
--   cases_hold   each case of the list
use mathlib.Core.Path.{◌≡◌, refl}
use mathlib.Core.Bool.{true, xor}
use lib.Count.{ones, ones_in}
use Rattle.cube.specs.NumberLists.{up_from, cons_if, select, lists, is_empty, largest}
use Rattle.cube.specs.Cube.{within}
use Rattle.cube.specs.Mask.{bits_then_zeros}
use Rattle.order.specs.BuiltIn.{graded}
use Rattle.gf2.specs.Vector.{add, total, dot, unit, chosen}
use Rattle.gf2.specs.Elimination.{pivot, is_zero, count, add_if, reduce, keep_unless, take_point, take_points}
use Rattle.gf2.specs.Solve.{flip, solve}
use Rattle.packed.specs.Packed.{number}
use Rattle.polynomial.specs.Polynomial.{sum_below, value}
use Rattle.polynomial.specs.Convert.{values, converted, convert_outcome, convert_leaves}
use Rattle.polynomial.specs.Degree.{degree_outcome}
use Rattle.matrix.specs.Matrix.{eliminated}
use Rattle.matrix.specs.Rank.{rank_outcome}
use Rattle.varint.specs.Varint.{groups, varint, encode_varint}
use Rattle.point_list.specs.PointList.{points_from, point_list, differences, encode_list}
use Rattle.filter_file.specs.File.{two_lists, contents, encode}
use Rattle.filter_file.specs.Read.{read_outcome}
use Rattle.filter.specs.Outside.{is_outside}
use Rattle.immunity.specs.Judgement.{differs, judged}
use Rattle.immunity.specs.Certificate.{bit_of, certificate}
use Rattle.judge.specs.Judge.{judge_outcome}
use Rattle.text.specs.Text.{ascii, digits, decimal, joined}
use Rattle.sheet_text.specs.Sheet.{judgement_sheet, sheet}
use Rattle.numbered_cases.specs.Cases.{same_list, same_option, on_accepted, is_refused, text_of, all, judged_so, holds_fact, holds, cases}

-- each case of the list
pub cases_hold : all holds cases ≡ true
unfolding cases holds holds_fact judged_so all same_list same_option on_accepted is_refused text_of
    convert_leaves convert_outcome converted values degree_outcome largest value sum_below
    encode encode_list differences encode_varint read_outcome contents two_lists point_list points_from varint groups
    sheet judgement_sheet joined decimal digits ascii
    rank_outcome judge_outcome judged differs is_outside bit_of certificate number
    eliminated take_points take_point keep_unless reduce add_if count is_zero pivot solve flip dot unit add total chosen xor
    graded bits_then_zeros within ones ones_in up_from select cons_if lists is_empty
cases_hold = refl
