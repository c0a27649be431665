-- The printed sheet: docs/SPECIFICATION.md, 'Sheet'.
--   side_sums n s f d side   the sums of the certificate of a side at degree d, points rising
--   sums n s f k             those of degree k - 1 for the reported degree k, side 1 then 0; none if k is 0 or there is no degree
--   judgement_sheet n s f j  the sheet of a judgement
--   filter_sheet n s f       the sheet of a filter
--   sheet_of o               the sheet for what Read answers
--   sheet file               the sheet of a file
--   SheetContract file ..    the contract of the sheet: it stands at the front of the text, its length is answered, and what stood behind stays
use Rattle.std.specs.Prelude.{◌≡◌, List, [], ◌++◌, ℕ, zero, suc, length, drop, Option, None, Some}
use Rattle.refusal.specs.Outcome.{Outcome, refused, accepted}
use Rattle.cube.specs.NumberLists.{lists}
use Rattle.cube.specs.Mask.{points, mask}
use Rattle.order.specs.BuiltIn.{graded}
use Rattle.filter_file.specs.File.{Contents}
use Rattle.filter_file.specs.Read.{read_outcome}
use Rattle.filter.specs.Part.{part}
use Rattle.filter.specs.Outside.{outside}
use Rattle.immunity.specs.Judgement.{Judgement, judged}
use Rattle.immunity.specs.Certificate.{certificate}
use Rattle.text.specs.Text.{Text}
use Rattle.sheet_lines.specs.Lines.{refused_line, first_line, rank_lines, degree_line, sides_line, sum_lines, additions_line}

-- the sums of a side at degree d
abbrev pub side_sums : ℕ → List ℕ → List ℕ → ℕ → ℕ → Text
side_sums n s f d side = sum_lines side (certificate graded n s f side d) (outside (points s) (part side s f))

-- those of degree k - 1, side 1 then 0; none if k is 0, and none without a degree
abbrev pub sums : ℕ → List ℕ → List ℕ → Option ℕ → Text
sums n s f None = []
sums n s f (Some zero) = []
sums n s f (Some (suc d)) = side_sums n s f d 1 ++ side_sums n s f d 0

-- the sheet of a judgement
unfoldable pub judgement_sheet : ℕ → List ℕ → List ℕ → Judgement → Text
judgement_sheet n s f j =
    first_line n (length (points s)) j.mark ++ rank_lines n j.ranks ++ degree_line j.degree j.side j.witnesses ++ sides_line j.degrees
    ++ sums n s f j.degree ++ additions_line j.additions

-- the sheet of a filter
abbrev pub filter_sheet : ℕ → List ℕ → List ℕ → Text
filter_sheet n s f = judgement_sheet n s f (judged graded n s f)

-- the sheet for what Read answers
abbrev pub sheet_of : Outcome Contents → Text
sheet_of (refused k) = refused_line k
sheet_of (accepted c) = filter_sheet c.n (mask (lists c.set)) (mask (lists c.table))

-- the sheet of a file
unfoldable pub sheet : List ℕ → Text
sheet file = sheet_of (read_outcome 512 512 file)

-- the length of the sheet is answered, and the text is the sheet and what stood behind that length
pub record SheetContract (file t t' : List ℕ) (r : ℕ) : Type 0 where
  pub answers : r ≡ length (sheet file)
  pub leaves : t' ≡ sheet file ++ drop r t
