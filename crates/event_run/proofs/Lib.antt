mod Happens
