-- Lookups by section and key, and the document.
use Rattle.std.specs.Prelude.{◌≡◌, ℕ, List, [], drop}
use Rattle.std.specs.Prelude.{Option, Result}
use Rattle.std.proofs.Common.{ap, subst, sym}
use Rattle.std.specs.Str.{IsUtf8}
use Rattle.format_ini.specs.Documents.{IsDocument, IsRefused, ReadsLines}
use Rattle.format_ini.specs.Lines.{Said}
use Rattle.format_ini.specs.Lookup.{HasNoPair, IsLookup}
use Rattle.format_ini.specs.declared.dialect.Dialect.{Dialect}
use Rattle.format_ini.specs.declared.lines.Reason.{Reason}
use Rattle.format_ini.specs.declared.lines.State.{State}
use Rattle.format_ini.specs.declared.places.Placed.{Placed}
use Rattle.format_ini.specs.declared.places.Reading.{Reading}
use Rattle.format_ini.specs.declared.places.Stop.{Stop}
use Rattle.exported.proofs.IniEntries.{SoFar, no_text_by, over_by, refused_by}
use Rattle.exported.specs.Code.{end, invalid, invalid_utf8}
use Rattle.exported.specs.Ini.{TellsLookup, Writes, dialect_of, fault_number, reading_at}
use Rattle.exported.specs.declared.ini.IniEntry.{IniEntry}
use Rattle.exported.specs.declared.ini.IniState.{IniState}

pub tells_lookup : (dialect : ℕ) (d : Dialect) (bytes name key : List ℕ) (new : IniState)
    (after : Reading) (answer : Result (Option Placed) Stop) (code : ℕ) (out : IniEntry)
    → d ≡ dialect_of dialect → reading_at new ≡ after → IsLookup d bytes name key answer after
    → Writes answer after.offset code out → TellsLookup dialect bytes name key new code out
tells_lookup dialect d bytes name key new after answer code out same is found writes =
    let P : Dialect → Reading → Type 0 = λ x r. IsLookup x bytes name key answer r in
    let Q : ℕ → Type 0 = λ n. Writes answer n code out in
    record {
      answer = answer;
      found = subst (λ x. P x (reading_at new)) same (subst (λ r. P d r) (sym is) found);
      writes = subst Q (sym (ap (λ r. r.offset) is)) writes;
    }

module _ (dialect : ℕ) (bytes name key : List ℕ) (state : IniState) (out : IniEntry) where
  so_far : {code : ℕ} (tells : TellsLookup dialect bytes name key state code out)
      → SoFar dialect bytes tells.found.said tells.found.mid
  so_far tells =
      let it = tells.found in
      let lines = drop it.from.offset bytes in
      let P : State → Type 0 = λ s.
      ReadsLines (dialect_of dialect) s lines it.said it.mid.state (drop it.mid.offset bytes) in
      (lines, it.begins.0, subst P it.begins.2 it.passes.1)

  pub missing : TellsLookup dialect bytes name key state end out
      → (said : List Said) × IsDocument (dialect_of dialect) bytes said × HasNoPair name key [] said
  missing tells =
      let it = tells.found in (
        it.said,
        over_by dialect bytes it.said it.mid (reading_at state) tells.answer out it.next
            tells.writes (so_far tells),
        it.none,
      )

  pub refuses : TellsLookup dialect bytes name key state invalid out
      → (reason : Reason) × (out.error ≡ fault_number reason)
      × IsRefused (dialect_of dialect) bytes (record { offset = out.error_offset; why = reason })
  refuses tells =
      let it = tells.found in
      refused_by dialect bytes it.said it.mid (reading_at state) tells.answer out it.next
      tells.writes (so_far tells)

  pub no_texts : TellsLookup dialect bytes name key state invalid_utf8 out → IsUtf8 bytes → ⊥
  no_texts tells =
      let it = tells.found in
      no_text_by dialect bytes it.said it.mid (reading_at state) tells.answer out it.next
      tells.writes (so_far tells)
