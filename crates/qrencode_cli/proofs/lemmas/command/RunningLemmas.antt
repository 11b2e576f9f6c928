-- The parts of a run make a correct run.
use Rattle.clap.specs.Walk.{Text}
use Rattle.qr_devices.specs.Device.{AppendsBeginning, IsWrittenWithin, Reader, Writer, counted, flush_counted, is_write_fault, no_writes}
use Rattle.{qr_devices.specs.declared.{device.Trouble.Trouble, pen.{DrawFault.DrawFault, TheConstants.WRITE_MAX}}}
use Rattle.qrencode_cli.{proofs.lemmas.command.AskingLemmas.same-fault, specs.Command.{DrawnWhole, ErrorHolds, HasDrawing, IsFault, OutputHolds, Runs}}
use Rattle.qrencode_cli.specs.{Fault.fault_line, Steps.Command.{Attempts, Draws, IsEarly, drawing_of_job}, declared.fault.Fault.Fault}
use Rattle.std.proofs.Common.{◌≤◌, arith, ◌≡◌, ℕ, List, [], drop, Option, Result, Ok, Err, OnOk, OnErr, IfErr, MatchResult, if◌then◌else◌, inl, is_err, is_ok, max, true, false, inr, refl, append-nil, length}
use Rattle.std.{proofs.{KnownBytes.Appends-kept, lemmas.Bool.false≢true}, specs.Io.KnownBytes.{Appends, Keeps}}
use Rattle.qrencode_cli.specs.declared.fault.Fault.TheVariants as fault

-- if the writer failed while it received the drawing, the result is a write fault
pub draws-part : (old new : Writer) (drawing : List ℕ) → AppendsBeginning old.taken new.taken drawing → (old.counts ≡ no_writes → is_write_fault new.counts ≡ true)
    → (old.counts ≡ no_writes → new.counts.taken ≤ counted (length drawing)) → (old.counts ≡ no_writes → IsWrittenWithin new.counts)
    → new.counts.offered ≤ max old.counts.offered WRITE_MAX → new.counts.flushes ≡ old.counts.flushes → Draws old new drawing (Err fault.Write)
draws-part old new drawing part well most within offered flushes = search arith

-- the writer took the drawing, and then was flushed
module _ (old mid new : Writer) (drawing : List ℕ) (f : Result (Unit {0}) Trouble) (all : Appends old.taken mid.taken drawing)
    (well : old.counts ≡ no_writes → is_write_fault mid.counts ≡ false) (many : old.counts ≡ no_writes → mid.counts.taken ≡ counted (length drawing))
    (within : old.counts ≡ no_writes → IsWrittenWithin mid.counts) (offered : mid.counts.offered ≤ max old.counts.offered WRITE_MAX)
    (flushes : mid.counts.flushes ≡ old.counts.flushes) (buffer : mid.buffer ≡ old.buffer) (left : mid.rest ≡ drop (length drawing) old.rest) (keeps : Keeps mid.taken new.taken) (e : new.counts ≡ flush_counted f mid.counts) where
  -- the writer received the whole drawing, and `f` says whether the flush succeeded
  drawn-whole : DrawnWhole (is_ok f) old new drawing
  drawn-whole = search (arith, Appends-kept)

  -- if the flush succeeded, the drawing was written and flushed
  pub draws-whole : is_ok f ≡ true → Draws old new drawing (Ok tt)
  draws-whole is = search (arith, drawn-whole, false≢true)

  -- if the flush failed, the result is a write fault
  pub draws-unflushed : is_ok f ≡ false → Draws old new drawing (Err fault.Write)
  draws-unflushed is = grind (arith, drawn-whole)

-- a whole text is a prefix of itself
begins-all : (old new : Option (List ℕ)) (text : List ℕ) → Appends old new text → AppendsBeginning old new text
begins-all old new text p = (text, ([], append-nil text), p)

-- if the line of a fault was written, or a prefix of it, standard error holds what it should
pub tells-fault : (old new : Writer) (f : Fault) (slice : List ℕ) → slice ≡ fault_line f →
    (r : Result (Unit {0}) DrawFault) → OnOk r (Appends old.taken new.taken slice) →
    OnErr r (AppendsBeginning old.taken new.taken slice) →
    (old.counts ≡ no_writes → is_write_fault new.counts ≡ is_err r) →
    (old.counts ≡ no_writes → OnOk r (new.counts.taken ≡ counted (length slice))) →
    (old.counts ≡ no_writes → OnErr r (new.counts.taken ≤ counted (length slice))) →
    new.counts.flushes ≡ old.counts.flushes → ErrorHolds old new (fault_line f)
tells-fault old new f slice is (Ok t) ok err well many most flushes = search (arith, begins-all)
tells-fault old new f slice is (Err e) ok err well many most flushes = search arith

-- after the drawing was written, or the writer failed, standard output holds what it should
shown : (words : List Text) (given drawing : List ℕ) (out0 out1 : Writer) (r : Result (Unit {0}) Fault)
    → HasDrawing words given drawing → Draws out0 out1 drawing r
    → IfErr r (IsFault words given) × OutputHolds words given out0 out1 r
shown words given drawing out0 out1 (Ok t) h d = (tt, (drawing, h, d.ok))
shown words given drawing out0 out1 (Err f) h d = rw d.err.0 ((drawing, h), (drawing, h, d.err.1))

-- a fault before the first byte is written leaves the writer as it was
shows-nothing : (words : List Text) (given : List ℕ) (out0 out1 : Writer) (f : Fault) → IsEarly f → out1 ≡ out0
    → OutputHolds words given out0 out1 {T = Unit {0}} (Err f)
shows-nothing words given out0 out1 fault.Write h e = absurd h
shows-nothing words given out0 out1 _ h e = e

-- an attempt with this result is a run, if standard error and the exit status show the result
pub runs : (words : List Text) (in0 in1 : Reader) (out0 out1 err0 err1 : Writer) (r : Result (Unit {0}) Fault)
    (status : ℕ) → Attempts words in0 in1 out0 out1 r →
    MatchResult r (λ _. err1 ≡ err0) (λ f. ErrorHolds err0 err1 (fault_line f)) →
    status ≡ (if is_ok r then 0 else 1) → (err0.counts ≡ no_writes → IsWrittenWithin err1.counts) →
    Runs words in0 in1 out0 out1 err0 err1 r status
runs words in0 in1 out0 out1 err0 err1 r status (inl (job, h, d)) tells is within =
    let s = shown words h.given (drawing_of_job job) out0 out1 r h.answer d in
    record {
      given = h.given;
      is_input = h.is_input;
      is_fault = s.0;
      shows = s.1;
      reads = record {
        unread = h.reads.unread;
        read = λ i. elim (h.reads.read i) [ inl all ↦ inl all | inr (inl bad) ↦ cc | inr (inr bad) ↦ cc ];
      };
      tells = tells;
      status_is = is;
      read_fault = search arith;
      write_fault = d.fault;
      input_within = h.within;
      out_within = d.within;
      err_within = within;
      offered = d.offered;
    }
runs words in0 in1 out0 out1 err0 err1 r status (inr (f, e, h, same)) tells is within = record {
  given = h.given;
  is_input = h.is_input;
  is_fault = rw e h.answer.0;
  shows = search (arith, shows-nothing);
  reads = rw e (record {
    unread = h.reads.unread;
    read = λ i. elim (h.reads.read i) [
      | inl all ↦ inl all
      | inr (inl b) ↦ inr (inl (rw (same-fault refl b) refl))
      | inr (inr b) ↦ inr (inr (rw (same-fault refl b) refl))
    ];
  });
  tells = tells;
  status_is = is;
  read_fault = search (arith, same-fault);
  write_fault = search (arith, same-fault, false≢true);
  input_within = h.within;
  out_within = λ z. rw (same, z) (search arith);
  err_within = within;
  offered = rw same (omega arith);
}
