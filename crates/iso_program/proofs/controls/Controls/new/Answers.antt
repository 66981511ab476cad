use Rattle.iso_program.proofs.controls.Controls.new.Goals as goal

pub returns-in_err-intern-5-clause-rest : goal.returns-in_err-intern-5-clause-rest
returns-in_err-intern-5-clause-rest g c = record {
  names = λ place text h. c.in_err-intern-5.ensures.names place text (c.in_ok-intern-4.ensures.names place text
      (c.in_ok-intern-3.ensures.names place text (c.in_ok-intern-2.ensures.names place text (c.in_ok-intern.ensures.names place text h))));
  marks = λ m p h. c.in_err-intern-5.ensures.marks m p (c.in_ok-intern-4.ensures.marks m p
      (c.in_ok-intern-3.ensures.marks m p (c.in_ok-intern-2.ensures.marks m p (c.in_ok-intern.ensures.marks m p h))));
}

pub returns-clause-controls : goal.returns-clause-controls
returns-clause-controls g c =
    let second = c.in_ok-intern-2.ensures in
    let third = c.in_ok-intern-3.ensures in
    let fourth = c.in_ok-intern-4.ensures in
    let fifth = c.in_ok-intern-5.ensures in
    record {
      conjunction = fifth.names _ _ (fourth.names _ _ (third.names _ _ (second.names _ _ c.in_ok-intern.ensures.place)));
      disjunction = fifth.names _ _ (fourth.names _ _ (third.names _ _ second.place));
      if_then = fifth.names _ _ (fourth.names _ _ third.place);
      cut = fifth.names _ _ fourth.place;
      call = fifth.place;
    }

pub returns-clause-rest : goal.returns-clause-rest
returns-clause-rest g c = record {
  names = λ place text h. c.in_ok-intern-5.ensures.names place text (c.in_ok-intern-4.ensures.names place text
      (c.in_ok-intern-3.ensures.names place text (c.in_ok-intern-2.ensures.names place text (c.in_ok-intern.ensures.names place text h))));
  marks = λ m p h. c.in_ok-intern-5.ensures.marks m p (c.in_ok-intern-4.ensures.marks m p
      (c.in_ok-intern-3.ensures.marks m p (c.in_ok-intern-2.ensures.marks m p (c.in_ok-intern.ensures.marks m p h))));
}
