-- A text appended at place 0 is the front of the buffer (front): the refusal's line, or the sheet of the filter that Read found, which Judge accepts.
use borrow.Author.Rules.{rules}
use mathlib.Core.Path.{◌≡◌, sym, ap, ◌∙◌, subst₂}
use mathlib.Core.List.{List, ◌++◌}
use Prim.Native.Nat.{ℕ, ◌+◌, zero-le}
use native.Mathlib.Nat.{zero-add}
use native.Mathlib.Omega.{arith}
use lib.ListN.{length, drop, length-replicate, length-append}
use Rattle.refusal.specs.Refusal.{number_of}
use Rattle.refusal.specs.Outcome.{refused}
use Rattle.io.specs.Counts.{IsPrefixLen}
use Rattle.filter_file.specs.Read.{read_outcome}
use Rattle.buffer.specs.Appends.{Appends}
use Rattle.buffer.proofs.Appending.{appends_front}
use Rattle.sheet_text.specs.Sheet.{sheet, SheetContract}
use Rattle.sheet_text.proofs.ReadFilter.{ReadAs, filter_judged, filter_sheet_lem, read_filter, read_refused, refused_sheet}
use Rattle.sheet_text.proofs.sheet.sheet.Goals as goal
use Rattle.sheet_text.proofs.sheet.sheet.Goals.{In-Ok}

-- a text that is written at the front
front : (bs t t' : List ℕ) (r : ℕ) → Appends bs t t' 0 r → (file : List ℕ) → bs ≡ sheet file → IsPrefixLen r t' × SheetContract file t t' r
front bs t t' r h file e =
    let long : r ≡ length bs = h.upto ∙ zero-add (length bs) in
    let whole : length t' ≡ length bs + length (drop r t) = ap length h.buffer ∙ length-append bs (drop r t) in
    ((omega (arith, long, whole), long ∙ sym (ap length (appends_front zero-le h))), record { answers = long ∙ ap length e; leaves = h.buffer ∙ ap (λ x. x ++ drop r t) e })

-- the filter that is read
read_found : (c : In-Ok) →
    ReadAs (read_outcome 512 512 c.args.file.now) c.in-Ok.n c.read.new.set c.read.new.table
read_found c =
    let a = c.args in
    subst₂ (λ k l. ReadAs (read_outcome k l a.file.now) c.in-Ok.n c.read.new.set c.read.new.table)
    (length-replicate {A = ℕ} 512 0) (length-replicate {A = ℕ} 512 0) (read_filter _ c.read.result _ _ _ _ c.read.ensures _ c.in-Ok.is)

pub filter_sheet-requires : goal.filter_sheet-requires
filter_sheet-requires c =
    (search rules, filter_judged c.args.file.now _ _ _ (read_found (goal.at.filter_sheet-requires c).In-Ok) (λ i l. omega (arith, c.type_inv.file i)))

pub returns-in-Err : goal.returns-in-Err
returns-in-Err c =
    let file = c.args.file.now in
    let o : read_outcome 512 512 file ≡ refused (number_of c.in-Err.x) =
    subst₂ (λ k l. read_outcome k l file ≡ refused (number_of c.in-Err.x)) (length-replicate {A = ℕ} 512 0) (length-replicate {A = ℕ} 512 0)
    (read_refused _ c.read.result _ _ _ _ c.read.ensures _ c.in-Err.is) in
    let h = front _ _ c.refused_line.new.text c.refused_line.result c.refused_line.ensures file (refused_sheet file _ _ o c.from.ensures) in
    record { length_in_text = h.0; sheet_written = h.1 }

pub returns-in-Ok : goal.returns-in-Ok
returns-in-Ok c =
    let h = front _ _ c.filter_sheet.new.text c.filter_sheet.result c.filter_sheet.ensures c.args.file.now (filter_sheet_lem c.args.file.now _ _ _ (read_found (goal.at.returns-in-Ok c).In-Ok)) in
    record { length_in_text = h.0; sheet_written = h.1 }
