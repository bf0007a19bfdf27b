-- The bytes that are read from a source by several reads.
use Rattle.qh_model.proofs.Common.{◌≡◌, ◌∙◌, ◌++◌, ◌+◌, ℕ, List, [], ap, sym, subst, arith, length}
use Rattle.qh_model.proofs.Common.{length-append, append_assoc, Option, Some, None, Result, Ok, Err, Vec, IfOk, IfErr, Consumes, ReadsIn, IsFirstFault, Vector}
use Rattle.{std.specs.declared.alloc.Global.Global, qh_model.specs.declared.form.Form.Form, qh_model.specs.declared.read_fault.ReadFault.ReadFault}
use Rattle.qh_read.specs.{contract.Answers.AnswersSource, contract.ReadFaults.IsTextFault, steps.Sources.FedOn}
use Rattle.qh_read.specs.{steps.Sources.Stops, contract.Holding.Reading, contract.Holding.Fed, headline.SourceBytes.Gives, headline.SourceBytes.GivesAll}

-- the bytes of two reads, one after the other
pub Consumes-append : (old mid new : Option (List ℕ)) (xs ys : List ℕ) → Consumes old mid xs → Consumes mid new ys → Consumes old new (xs ++ ys)
Consumes-append None mid new xs ys h k = tt
Consumes-append (Some a) None new xs ys h k = absurd h
Consumes-append (Some a) (Some b) None xs ys h k = absurd k
Consumes-append (Some a) (Some b) (Some d) xs ys h k = h ∙ ap (λ (t : List ℕ). xs ++ t) k ∙ sym (append_assoc xs ys d)

-- two feeds, one after the other
pub FedOn-append : (a b d : Reading) (old mid new : Option (List ℕ)) → FedOn a b old mid → FedOn b d mid new → FedOn a d old new
FedOn-append a b d old mid new f g = record {
  given = f.given ++ g.given;
  took = Consumes-append old mid new f.given g.given f.took g.took;
  fed = λ form bytes h. subst (Fed form d) (append_assoc bytes f.given g.given) (g.fed form (bytes ++ f.given) (f.fed form bytes h));
  count = omega (arith, f.count, g.count, length-append f.given g.given);
}

-- the reason why reading stops after these bytes
pub Stops-after : (e : ReadFault) (before : ℕ) (old mid new : Option (List ℕ))
    (failures_old failures_mid failures_new : ℕ) (given : List ℕ) (count : ℕ)
    → Consumes old mid given → failures_mid ≡ failures_old → count ≡ before + length given
    → Stops e count mid new failures_mid failures_new → Stops e before old new failures_old failures_new
Stops-after e before old mid new fo fm fn given count took same is s = record {
  big = λ h. let more = s.big h in (
    given ++ more.0,
    Consumes-append old mid new given more.0 took more.1,
    (omega (arith, is, length-append given more.0, more.2.0), omega (arith, is, length-append given more.0, more.2.1)),
  );
  big_first = λ h. let more = s.big_first h in (
    given ++ more.0,
    Consumes-append old mid new given more.0 took more.1,
    omega (arith, is, length-append given more.0, more.2),
  );
  device = λ h. omega (arith, s.device h, same);
  no_device = λ h. s.no_device h ∙ same;
  no_text = s.no_text;
}

-- the reader was fed a part of the bytes read from the source, and these bytes are still to be fed
pub record FedBut (before after : Reading) (ahead : List ℕ) (old new : Option (List ℕ)) : Type 0 where
  pub given : List ℕ
  pub took : Consumes old new (given ++ ahead)
  pub fed : (form : Form) (bytes : List ℕ) → Fed form before bytes → Fed form after (bytes ++ given)
  pub count : after.count ≡ before.count + length given

-- all bytes read from the source were fed from the start
pub Gives-all : (form : Form) (start reader : Reading) (old new : Option (List ℕ)) → Fed form start []
    → FedOn start reader old new → Gives old new (Fed form reader)
Gives-all form start reader old new h f = (f.given, f.took, f.fed form [] h)

-- all bytes read from the source were fed, and this is the reader's result
pub AnswersSource-fed : {S : Type 0} (form : Form) (reader : Reading) (remaining : S → Option (List ℕ)) (failure_count : S → ℕ) (old new : S)
    (answer : Result (Vec Vector Global) ReadFault) → GivesAll (remaining old) (remaining new) (Fed form reader) → failure_count new ≡ failure_count old
    → IfOk answer (λ points. (f : Form) (bytes : List ℕ) → Fed f reader bytes → ReadsIn f bytes points.items)
    → IfErr answer (λ e. (f : Form) (bytes : List ℕ) → Fed f reader bytes → IsFirstFault f bytes e)
    → IfErr answer IsTextFault → AnswersSource form remaining failure_count old new answer
AnswersSource-fed form reader remaining failure_count old new (Ok points) all same read fault text = record {
  read = (all.0, (all.1.0, all.1.1, read form all.1.0 all.1.2));
  text = tt;
  big = λ e. cc;
  big_first = λ e. cc;
  device = λ e. cc;
  no_device = λ e. same;
}
AnswersSource-fed form reader remaining failure_count old new (Err e) all same read fault text = record {
  read = tt;
  text = λ is_text. (all.0, (all.1.0, all.1.1, fault form all.1.0 all.1.2));
  big = λ h. absurd (text.2 cc);
  big_first = λ h. absurd (text.0 cc);
  device = λ h. absurd (text.1 cc);
  no_device = λ h. same;
}

-- the reason why reading stops from the start
pub AnswersSource-stopped : {S : Type 0} (form : Form) (e : ReadFault) (before : ℕ) (remaining : S → Option (List ℕ)) (failure_count : S → ℕ)
    (old new : S) → before ≡ 0 → Stops e before (remaining old) (remaining new) (failure_count old) (failure_count new)
    → AnswersSource form remaining failure_count old new (Err e)
AnswersSource-stopped form e before remaining failure_count old new none s = record {
  read = tt;
  text = λ is_text. absurd (s.no_text is_text);
  big = λ h. let given = s.big cc in (given.0, given.1, (omega (arith, none, given.2.0), omega (arith, none, given.2.1)));
  big_first = λ h. let given = s.big_first cc in (given.0, given.1, omega (arith, none, given.2));
  device = λ h. s.device cc;
  no_device = λ h. s.no_device (λ is. h (ap Err is));
}
