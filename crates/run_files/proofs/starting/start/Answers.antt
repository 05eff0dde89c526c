use Rattle.std.proofs.Common.{◌≡◌, ◌∙◌, ℕ, length, refl, ap, arith}
use Rattle.stat_book.specs.Calls.{new_book}
use Rattle.run_files.proofs.Started.{all_ready, none_flushed, none_read}
use Rattle.run_files.proofs.starting.start.Goals as goal

pub returns : goal.returns
returns g c =
    let opened = c.in_ok-opened.opened in let opens = c.in_ok-opened.ensures in
    let made = c.in-Ok.ensures in
    let count : c.len.result ≡ length c.args.files.items = omega (arith, c.len.ensures) in record {
      book = opens.book ∙ ap (λ (n : ℕ). new_book c.args.setup.config.now n) count;
      flusher = none_flushed opened.store opened.flusher opens.flusher;
      reader = none_read opened.store _ opened.admin opens.reader;
      rounds = (refl, refl);
      ready = all_ready opened.store opened.recorders.items c.in-Ok.jobs.items opens.recorders made.recorders
          made.numbers;
      given = made.files;
      numbers = made.numbers;
    }
